-- The first place at which a condition is broken, one column at a time.
use Rattle.std.proofs.Common.{◌≡◌, ◌⊎◌, ◌+◌, ℕ, List, [], ◌∷◌, sym, subst, refl, inl, inr}
use Rattle.values.specs.declared.kind.Kind.{Kind}
use Rattle.row_format.specs.Columns.{Column}
use Rattle.row_format.specs.Plannable.{Never, FirstAt}
use Rattle.separation.specs.declared.conditions.Condition.{Condition}
use Rattle.separation.specs.declared.conditions.Condition.TheVariants.{Paired, Whole, Apart}
use Rattle.separation.specs.Inner.Conditions.{Breaks, MayJudge}

-- at the end of the columns or the kinds
pub never_end : (P : List Column → List Kind → Type 0) (cs : List Column) (kinds : List Kind) → (cs ≡ []) ⊎ (kinds ≡ []) → (P cs kinds → ⊥) → Never P cs kinds
never_end P [] kinds h holds = holds
never_end P (c ∷ cs) [] h holds = holds
never_end P (c ∷ cs) (kind ∷ kinds) (inl e) holds = absurd (cc)
never_end P (c ∷ cs) (kind ∷ kinds) (inr e) holds = absurd (cc)

-- in front
pub at_front : (P : List Column → List Kind → Type 0) (cs : List Column) (kinds : List Kind) → P cs kinds → FirstAt P cs kinds 1
at_front P [] kinds h = (h, refl)
at_front P (c ∷ cs) [] h = (h, refl)
at_front P (c ∷ cs) (kind ∷ kinds) h = inl (h, refl)

may_later : (condition : Condition) (c : Column) (cs : List Column) (kind : Kind) (kinds : List Kind) → MayJudge condition (c ∷ cs) (kind ∷ kinds) → MayJudge condition cs kinds
may_later Paired c cs kind kinds h = tt
may_later Whole c cs kind kinds h = tt
may_later Apart c cs kind kinds h = (h.0.1, h.1.1)

-- what is known behind a column and its kind that break nothing
pub record Passes (condition : Condition) (columns : List Column) (kinds : List Kind) (later : List Column) (later_kinds : List Kind) : Type 0 where
  pub may : MayJudge condition later later_kinds
  pub never : Never (Breaks condition) later later_kinds → Never (Breaks condition) columns kinds
  pub at : (place : ℕ) → FirstAt (Breaks condition) later later_kinds place → FirstAt (Breaks condition) columns kinds (place + 1)

abbrev Step : Condition → List Column → List Kind → List Column → List Kind → Type 0
Step condition columns kinds later later_kinds = (Breaks condition columns kinds → ⊥) → MayJudge condition columns kinds → Passes condition columns kinds later later_kinds

step : (condition : Condition) (c : Column) (cs : List Column) (kind : Kind) (kinds : List Kind) → Step condition (c ∷ cs) (kind ∷ kinds) cs kinds
step condition c cs kind kinds holds may = record {
  may = may_later condition c cs kind kinds may;
  never = λ n. (holds, n);
  at = λ place h. inr (holds, (place, h, refl));
}

pub passes : (condition : Condition) (columns : List Column) (kinds : List Kind) (c : Column) (cs : List Column) (kind : Kind) (more : List Kind) → columns ≡ c ∷ cs → kinds ≡ kind ∷ more → Step condition columns kinds cs more
passes condition columns kinds c cs kind more e k =
    subst (λ (xs : List Column). Step condition xs kinds cs more) (sym e) (subst (λ (ys : List Kind). Step condition (c ∷ cs) ys cs more) (sym k) (step condition c cs kind more))
