-- One name more.
use Rattle.std.proofs.Common.{◌≡◌, List, ℕ, None, Some, ap, ◌∙◌, sym, subst}
use Rattle.std.specs.Prelude.{string_bytes}
use Rattle.std.specs.String.{string_cmp}
use Rattle.std.specs.Ordering.{nat_cmp}
use Rattle.std.specs.Cmp.Lexicographic.{slice_cmp}
use Rattle.std.specs.BTreeMap.{UpdatesBy}
use Rattle.formatx.specs.Scene.{named, with_name}
use Rattle.formatx.proofs.NameLemmas.{pairs, name_added, not_some}
use Rattle.formatx.proofs.names.Names.add.Goals as goal
use Rattle.formatx.proofs.names.Names.add.Goals.{in-Ok, in-Err}

pub returns-clause-ok : goal.returns-clause-ok
returns-clause-ok c =
    elim c.match-insert.branch [
      | in-Ok w ↦
          let old = c.self.inside.positions in
          let view : pairs old.entries ≡ c.args.self.now = cc in
          let text : string_bytes c.in_ok-name.name ≡ c.args.name.now = c.in_ok-name.ensures.ok in
          let absent : named c.args.self.now c.args.name.now ≡ None = sym c.position.ensures ∙ not_some c.position.result (sym c.is_some.ensures ∙ c.if-is_some.false) in
          let none : named (pairs old.entries) c.args.name.now ≡ None = ap (λ (ps : List (List ℕ × ℕ)). named ps c.args.name.now) view ∙ absent in
          let updates : UpdatesBy string_cmp (λ k. slice_cmp nat_cmp c.args.name.now (string_bytes k)) old c.insert.new.self (Some c.args.index) =
          subst (λ (name : List ℕ). UpdatesBy string_cmp (λ k. slice_cmp nat_cmp name (string_bytes k)) old c.insert.new.self (Some c.args.index)) text w.in-Ok.ensures.updates in
          let added : named (pairs c.insert.new.self.entries) ≡ with_name (named c.args.self.now) c.args.name.now c.args.index =
          name_added old c.insert.new.self c.args.name.now c.args.index none updates ∙ ap (λ (ps : List (List ℕ × ℕ)). with_name (named ps) c.args.name.now c.args.index) view in
          rw w.result-is added
      | in-Err w ↦ rw w.result-is tt
    ]
