use Rattle.std.proofs.Common.{◌≡◌, ◌∙◌, ◌↔◌, ℕ, List, Bor, map, sym, bytes_eq, length, rules, tests, arith}
use Rattle.std.specs.List.{IsDistinct}
use Rattle.std.specs.Ordering.{eq_by_cmp}
use Rattle.std.specs.Set.{distinct_count}
use Rattle.std.proofs.lemmas.Bool.Decides.{nat_tests}
use Rattle.std.proofs.lemmas.Iterator.{YieldsList-from_slice, YieldsList-from_map_by, items_from_drains}
use Rattle.std.proofs.lemmas.List.{length-map}
use Rattle.std.proofs.lemmas.Map.Views.{btree_set_len-from_list}
use Rattle.values.specs.Datum.{word_text}
use Rattle.header_lines.proofs.NameLemmas.{text_cmp, text_cmp_total, differ_by_count}
use Rattle.header_lines.proofs.names.are_distinct.Goals as goal

pub returns : goal.returns
returns c =
    let ran = c.in_ok-texts.ensures.ran in
    let lent : List (Bor (List ℕ)) = ran.0 in
    let is : map (λ text. text.now) lent ≡ map word_text c.args.names.now =
    items_from_drains lent ran.1 (YieldsList-from_map_by _ (λ text. text.now) word_text (YieldsList-from_slice c.args.names.now cc) c.map.ensures.closure (λ x r q k. search (rules, tests))) in
    let counted : c.len.result ≡ distinct_count (eq_by_cmp text_cmp) lent = c.len.ensures.len ∙ btree_set_len-from_list text_cmp_total lent c.in_ok-texts.texts ran.2 in
    let long : length (map word_text c.args.names.now) ≡ length c.args.names.now = length-map c.args.names.now word_text in
    let differ : (c.len.result ≡ length (map word_text c.args.names.now)) ↔ IsDistinct bytes_eq (map word_text c.args.names.now) = differ_by_count lent (map word_text c.args.names.now) c.len.result is counted in (
      λ test. differ.0 (let same : c.len.result ≡ length c.args.names.now = grind (arith, nat_tests) in same ∙ sym long),
      λ apart. (let same : c.len.result ≡ length c.args.names.now = differ.1 apart ∙ long in grind (arith, nat_tests)),
    )
