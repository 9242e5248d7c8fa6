-- A field runs on where it may touch what is behind it, and that begins with a character that it takes.
use Rattle.std.proofs.Common.{◌≡◌, ◌⊎◌, ◌≤◌, ℕ, Bool, true, false, List, [], ◌∷◌, ◌++◌, sym, subst, refl, inl, inr, ◌∙◌, arith}
use Rattle.sprintf.specs.declared.parser.ConversionType.{ConversionType}
use Rattle.sprintf.specs.declared.parser.ConversionType.TheVariants.{DecInt, OctInt, HexIntLower, HexIntUpper, Char as CharConversion, String}
use Rattle.values.specs.declared.kind.Kind.{Kind}
use Rattle.values.specs.declared.kind.Kind.TheVariants.{Word, Char}
use Rattle.values.specs.Datum.{Datum}
use Rattle.row_format.specs.Columns.{Column, field_text, columns_text, width_of}
use Rattle.row_format.specs.Fit.{stop, Takes}
use Rattle.row_format.specs.Plannable.{is_number, is_exact, Converts, IsPaired, IsUnpaired, IsLossy, Never, BeginsTaken, RunsOn, trailing_spaces}
use Rattle.separation.specs.Inner.Table.{field_opening, is_opening_taken}
use Rattle.separation.specs.Inner.Touching.{TakesSome, Touches, IsFollowed}
use Rattle.separation.proofs.Texts.{first_ascii, same_some, NoneOrSpace, trail_spaces}
use Rattle.separation.proofs.Clear.{space_clear, not_followed}
use Rattle.separation.proofs.Taken.{followed}

-- the test decides the fact
abbrev pub Decides : Bool → Type 0 → Type 0
Decides b P = (b ≡ true → P) × (P → b ≡ true)

pub decides_by : (P : Type 0) (b test : Bool) → b ≡ test → (test ≡ true → P) → (test ≡ false → P → ⊥) → Decides b P
decides_by P true test e whenever unless = (λ _. whenever (sym e), λ _. refl)
decides_by P false test e whenever unless = (λ bad. absurd (cc), λ p. absurd (unless (sym e) p))

pub never : (P : Type 0) → (P → ⊥) → Decides false P
never P refuted = (λ bad. absurd (cc), λ p. absurd (refuted p))

-- what is not unpaired is paired
word_stable : (kind : Kind) → ((kind ≡ Word → ⊥) → ⊥) → kind ≡ Word
word_stable Word h = refl
word_stable _ h = absurd (h (λ e. cc))

character_stable : (kind : Kind) → ((kind ≡ Char → ⊥) → ⊥) → kind ≡ Char
character_stable Char h = refl
character_stable _ h = absurd (h (λ e. cc))

true_stable : (b : Bool) → ((b ≡ true → ⊥) → ⊥) → b ≡ true
true_stable true h = refl
true_stable false h = absurd (h (λ e. cc))

converts_stable : (v : ConversionType) (kind : Kind) → ((Converts v kind → ⊥) → ⊥) → Converts v kind
converts_stable DecInt kind h = true_stable (is_number kind) h
converts_stable OctInt kind h = true_stable (is_number kind) h
converts_stable HexIntLower kind h = true_stable (is_number kind) h
converts_stable HexIntUpper kind h = true_stable (is_number kind) h
converts_stable String kind h = word_stable kind h
converts_stable CharConversion kind h = character_stable kind h
converts_stable _ kind h = h (λ k. k)

pub paired_of : (c : Column) (kind : Kind) → ((IsPaired c kind → ⊥) → ⊥) → IsPaired c kind
paired_of c kind h = (
  converts_stable c.field.conversion_type kind (λ refuted. h (λ p. refuted p.0)),
  λ e. h (λ p. p.1 e),
  λ e. h (λ p. p.2 e),
)

pub takes_some : (v : ConversionType) (kind : Kind) → Converts v kind → TakesSome v
takes_some DecInt kind h = tt
takes_some OctInt kind h = tt
takes_some HexIntLower kind h = tt
takes_some HexIntUpper kind h = tt
takes_some String kind h = tt
takes_some CharConversion kind h = tt
takes_some _ kind h = absurd h

-- no columns or no kinds print nothing
pub prints_nothing : (cs : List Column) (kinds : List Kind) → (cs ≡ []) ⊎ (kinds ≡ []) → (values : List Datum) → columns_text cs kinds values ≡ []
prints_nothing [] kinds h values = refl
prints_nothing (c ∷ cs) [] h values = refl
prints_nothing (c ∷ cs) (kind ∷ kinds) (inl e) values = absurd (cc)
prints_nothing (c ∷ cs) (kind ∷ kinds) (inr e) values = absurd (cc)

-- whether the next field's text may begin with what the column takes
abbrev Followed : Column → Bool → List Column → List Kind → Type 0
Followed c b later kinds = Never IsUnpaired later kinds → Never IsLossy later kinds → Decides b (IsFollowed c later kinds)

next_by : (c next : Column) (cs : List Column) (kind : Kind) (kinds : List Kind) (b : Bool) → c.after ≡ [] → TakesSome c.field.conversion_type → width_of next.field ≤ 2147483647
    → b ≡ is_opening_taken c.field.conversion_type (field_opening next.field kind) → Followed c b (next ∷ cs) (kind ∷ kinds)
next_by c next cs kind kinds b none some narrow is paired whole =
    let pair = paired_of next kind paired.0 in
    decides_by (IsFollowed c (next ∷ cs) (kind ∷ kinds)) b (is_opening_taken c.field.conversion_type (field_opening next.field kind)) is
    (followed c next cs kind kinds none some pair whole.0 paired.1 narrow) (not_followed c next cs kind kinds none pair)

pub next_exactly : (c next : Column) (later cs : List Column) (kind : Kind) (kinds more : List Kind) (b : Bool) → later ≡ next ∷ cs → kinds ≡ kind ∷ more → c.after ≡ [] → TakesSome c.field.conversion_type → width_of next.field ≤ 2147483647
    → b ≡ is_opening_taken c.field.conversion_type (field_opening next.field kind) → Never IsUnpaired later kinds → Never IsLossy later kinds → Decides b (IsFollowed c later kinds)
next_exactly c next later cs kind kinds more b e k none some narrow is =
    subst (λ (xs : List Column). Followed c b xs kinds) (sym e) (subst (λ (ys : List Kind). Followed c b (next ∷ cs) ys) (sym k) (next_by c next cs kind more b none some narrow is))

-- ---- running on

behind_by : (c : Column) (spaces rest : List ℕ) → NoneOrSpace spaces → BeginsTaken c (spaces ++ rest) → (spaces ≡ []) × BeginsTaken c rest
behind_by c [] rest h taken = (refl, taken)
behind_by c (s ∷ spaces) rest h taken =
    let space : s ≡ 32 = h in
    let same : taken.0 ≡ 32 = same_some (sym taken.1 ∙ first_ascii s (spaces ++ rest) (omega (arith, space))) ∙ space in
    absurd (space_clear c.field.conversion_type (stop c) (subst (λ x. Takes c.field.conversion_type (stop c) x) same taken.2))

pub runs_parts : (c : Column) (cs : List Column) (kind : Kind) (kinds : List Kind) → RunsOn (c ∷ cs) (kind ∷ kinds) → (is_exact c.field kind ≡ false) × Touches c kind × IsFollowed c cs kinds
runs_parts c cs kind kinds (exact, (value, values, fit, taken)) =
    let parts = behind_by c (trailing_spaces (field_text c.field kind value)) (c.after ++ columns_text cs kinds values) (trail_spaces (field_text c.field kind value)) taken in
    (exact, (value, fit.0, parts.0), (values, fit.1, parts.1))

pub runs_by : (c : Column) (cs : List Column) (kind : Kind) (kinds : List Kind) → is_exact c.field kind ≡ false → Touches c kind → IsFollowed c cs kinds → RunsOn (c ∷ cs) (kind ∷ kinds)
runs_by c cs kind kinds exact (value, fit, none) (values, fits, taken) =
    (exact, (value, values, (fit, fits), subst (λ (t : List ℕ). BeginsTaken c (t ++ (c.after ++ columns_text cs kinds values))) (sym none) taken))

-- the test of a field that isn't exact
pub runs_exactly : (columns : List Column) (kinds : List Kind) (c : Column) (cs : List Column) (kind : Kind) (more : List Kind) (b : Bool) → columns ≡ c ∷ cs → kinds ≡ kind ∷ more
    → (b ≡ true → is_exact c.field kind ≡ false) → (b ≡ true → Touches c kind) → (b ≡ true → IsFollowed c cs more)
    → (is_exact c.field kind ≡ false → Touches c kind → IsFollowed c cs more → b ≡ true) → Decides b (RunsOn columns kinds)
runs_exactly columns kinds c cs kind more b e k exact touches follows all =
    subst (λ (xs : List Column). Decides b (RunsOn xs kinds)) (sym e) (subst (λ (ys : List Kind). Decides b (RunsOn (c ∷ cs) ys)) (sym k) (
      (λ h. runs_by c cs kind more (exact h) (touches h) (follows h)),
      (λ runs. let parts = runs_parts c cs kind more runs in all parts.0 parts.1 parts.2),
    ))
