use denote.Bor.{Bor}
use Rattle.std.proofs.Common.{◌≡◌, ◌<◌, ℕ, false, List, [], ◌∷◌, length, map, arith, refl, ap, subst, Option, None, Some}
use Rattle.std.specs.Option.{is_some}
use Rattle.std.specs.Str.{chars}
use Rattle.std.proofs.lemmas.List.{append-nil}
use Rattle.scan_fmt.specs.Slices.{Sliced, NextSlice, slices_left}
use Rattle.values.specs.declared.kind.Kind.{Kind}
use Rattle.row_format.specs.Columns.{Column}
use Rattle.row_plan.specs.Inner.Reading.{datum_in, EachFits}
use Rattle.row_plan.proofs.reading.read_tokens.Goals as goal

empty : {A : Type 0} (xs : List A) → length xs < 1 → xs ≡ []
empty [] h = refl
empty (x ∷ xs) h = absurd (omega arith)

none_left : (old new : Sliced) (r : Option (Bor (List ℕ))) → NextSlice old r new → false ≡ is_some r → slices_left old ≡ []
none_left old new None h e = h.gives.0
none_left old new (Some b) h e = cc

nothing_left : (cs : List Column) (kinds : List Kind) (tokens : List (List ℕ)) → cs ≡ [] → kinds ≡ [] → tokens ≡ [] → EachFits cs kinds tokens []
nothing_left cs kinds tokens c k t = rw (c, k, t) tt

pub returns-clause-values : goal.returns-clause-values
returns-clause-values c =
    let left : slices_left c.fields.tokens ≡ [] = none_left c.fields.tokens c.next-2.new.self c.next-2.result c.next-2.ensures.steps c.if-is_some.ensures in
    let last : EachFits c.fields.fields.now c.fields.kinds.now (map chars (slices_left c.fields.tokens)) [] = nothing_left c.fields.fields.now c.fields.kinds.now (map chars (slices_left c.fields.tokens)) (empty c.fields.fields.now c.in_default.len_below) (empty c.fields.kinds.now c.in-empty.len_below) (ap (map chars) left) in
    subst (EachFits c.args.fields.now c.args.kinds.now (map chars (slices_left c.args.tokens.now))) (append-nil (map datum_in c.fields.values.items)) (c.fields.invariant.values [] last)
