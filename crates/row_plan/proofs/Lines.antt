-- What the tokens of a line say of the lists of values whose row it is.
use Rattle.std.proofs.Common.{◌≡◌, ◌≢◌, ◌≤◌, ◌<◌, ◌+◌, ℕ, List, [], ◌∷◌, ◌++◌, length, map, refl, ap, sym, subst, ◌∙◌, arith, length-append, Result, Ok, Err, IfOk, IfErr, OnOk}
use Rattle.std.specs.Str.{chars}
use Rattle.scan_fmt.specs.Scanned.{Token, ScannedTexts}
use Rattle.scan_fmt.specs.Slices.{piece_text, ScannedPieces, Sliced, slices_left}
use Rattle.scan_fmt.specs.Inner.Parts.{ArePieces}
use Rattle.scan_fmt.specs.declared.slices.Piece.{Piece}
use Rattle.values.specs.declared.kind.Kind.{Kind}
use Rattle.values.specs.declared.value.Value.{Value}
use Rattle.values.specs.Datum.{Datum, datum_of}
use Rattle.row_format.specs.Columns.{Column, columns_text, row_text, field_text, width_of}
use Rattle.row_format.specs.Fit.{AreFit}
use Rattle.row_format.specs.Laws.{IsText, ReadsBack, HasOneList, ReadsToOneList}
use Rattle.row_format.specs.Plannable.{IsPlannable, IsUnpaired, Never}
use Rattle.row_format.specs.Planned.{planned_text}
use Rattle.row_format.specs.Row.{IsRow, EachReads}
use Rattle.row_plan.specs.declared.row_value.RowValue.{RowValue}
use Rattle.row_plan.specs.declared.error.RowError.{RowError}
use Rattle.row_plan.specs.declared.error.RowError.TheVariants.{NotARow, NoMemory}
use Rattle.row_plan.specs.Inner.Reading.{kind_in, datum_in, text_in, AreOwned, EachFits, NoneWider, ReadsNoList}
use Rattle.row_plan.specs.Plan.{Planned, IsRead, RefusesRow}
use Rattle.row_plan.proofs.Widths.{field_wide}

-- values that fit and that the tokens read to, in one
fits : (cs : List Column) (kinds : List Kind) (tokens : List (List ℕ)) (values : List Datum) → AreFit cs kinds values → EachReads cs kinds tokens values → EachFits cs kinds tokens values
fits [] [] [] [] a r = tt
fits (c ∷ cs) (kind ∷ kinds) (token ∷ tokens) (value ∷ values) a r = (r.0, (r.1, a.0.1), fits cs kinds tokens values a.1 r.2)
fits _ _ _ _ a r = absurd r

are_fit : (cs : List Column) (kinds : List Kind) (tokens : List (List ℕ)) (values : List Datum) → EachFits cs kinds tokens values → AreFit cs kinds values
are_fit [] [] [] [] h = tt
are_fit (c ∷ cs) (kind ∷ kinds) (token ∷ tokens) (value ∷ values) h = ((h.0, h.1.1), are_fit cs kinds tokens values h.2)
are_fit _ _ _ _ h = absurd h

each_reads : (cs : List Column) (kinds : List Kind) (tokens : List (List ℕ)) (values : List Datum) → EachFits cs kinds tokens values → EachReads cs kinds tokens values
each_reads [] [] [] [] h = tt
each_reads (c ∷ cs) (kind ∷ kinds) (token ∷ tokens) (value ∷ values) h = (h.0, h.1.0, each_reads cs kinds tokens values h.2)
each_reads _ _ _ _ h = absurd h

-- the tokens are the texts at the pieces
texts_are : (input : List ℕ) (pieces : List Piece) (tokens : List Token) → ArePieces input pieces tokens → map chars (map (piece_text input) pieces) ≡ map (λ (t : Token). t.text) tokens
texts_are input [] [] h = refl
texts_are input (p ∷ ps) (t ∷ ts) h = rw (h.0.text, texts_are input ps ts h.1) refl
texts_are input [] (t ∷ ts) h = absurd h
texts_are input (p ∷ ps) [] h = absurd h

pub scanned : (line format : List ℕ) (s : Sliced) → s.input ≡ line → ScannedPieces line format s.pieces → s.place ≡ 0 → ScannedTexts (chars line) format (map chars (slices_left s))
scanned line format s input pieces place = (
  pieces.tokens,
  pieces.scanned,
  rw (place, input) (texts_are line s.pieces pieces.tokens pieces.are),
)

stable : (a b : ℕ) → ¬ (¬ (a ≤ b)) → a ≤ b
stable a b h =
    let k : ¬ (b < a) = λ less. h (λ le. omega arith) in
    omega (arith, k)

-- a row is at least as long as each field is wide
columns_wide : (cs : List Column) (kinds : List Kind) (values : List Datum) (n : ℕ) → Never IsUnpaired cs kinds → AreFit cs kinds values → length (columns_text cs kinds values) ≤ n → NoneWider n cs
columns_wide [] kinds values n paired fit long = tt
columns_wide (c ∷ cs) (kind ∷ kinds) (value ∷ values) n paired fit long =
    let text = field_text c.field kind value in
    let rest = columns_text cs kinds values in
    let sum : length text + (length c.after + length rest) ≡ length (text ++ (c.after ++ rest)) = omega (arith, length-append text (c.after ++ rest), length-append c.after rest) in
    let wide : width_of c.field ≤ n = stable (width_of c.field) n (λ no. paired.0 (λ so. no (omega (arith, sum, long, field_wide c kind value fit.0.0 so.0 so.1 so.2)))) in
    (wide, columns_wide cs kinds values n paired.1 fit.1 (omega (arith, sum, long)))
columns_wide (c ∷ cs) _ _ n paired fit long = absurd fit

pub too_short : (plan : Planned) (line : List ℕ) → IsPlannable plan.format.columns plan.kinds → ¬ NoneWider (length line) plan.format.columns → (values : List Datum) → ¬ IsRow plan.format plan.kinds line values
too_short plan line can short values row =
    let rest = columns_text plan.format.columns plan.kinds values in
    let all : length line ≡ length plan.format.head + length rest = ap length row.text ∙ length-append plan.format.head rest in
    short (columns_wide plan.format.columns plan.kinds values (length line) can.paired row.fit (omega (arith, all)))

-- the tokens of a row read to its values
row_tokens : (plan : Planned) (line : List ℕ) (tokens : List (List ℕ)) (values : List Datum) → ReadsBack → IsText plan.format → IsPlannable plan.format.columns plan.kinds → ScannedTexts (chars line) (chars (planned_text plan.format plan.kinds)) tokens → IsRow plan.format plan.kinds line values → EachReads plan.format.columns plan.kinds tokens values
row_tokens plan line tokens values back text can scan row = back plan.format plan.kinds values tokens text can row.fit (subst (λ (t : List ℕ). ScannedTexts (chars t) (chars (planned_text plan.format plan.kinds)) tokens) row.text scan)

-- a line was scanned by the plan's text
pub record IsScanned (plan : Planned) (line : List ℕ) (columns : List Column) (kinds : List Kind) (tokens : List (List ℕ)) : Type 0 where
  pub text : IsText plan.format
  pub can : IsPlannable plan.format.columns plan.kinds
  pub columns_are : columns ≡ plan.format.columns
  pub kinds_are : kinds ≡ plan.kinds
  pub scan : ScannedTexts (chars line) (chars (planned_text plan.format plan.kinds)) tokens

-- where the tokens read to no list of values that fit, the line is no row
pub no_list : (plan : Planned) (line : List ℕ) (columns : List Column) (kinds : List Kind) (tokens : List (List ℕ)) (why : RowError) → IsScanned plan line columns kinds tokens → ReadsBack → ReadsNoList columns kinds tokens why → RefusesRow plan line why
no_list plan line columns kinds tokens NotARow s back none = λ values row.
    let each : EachFits plan.format.columns plan.kinds tokens values = fits plan.format.columns plan.kinds tokens values row.fit (row_tokens plan line tokens values back s.text s.can s.scan row) in
    none values (rw (s.columns_are, s.kinds_are) each)
no_list plan line columns kinds tokens NoMemory s back none = tt

-- what was read: a value for each token
pub record AreValues (columns : List Column) (kinds : List Kind) (tokens : List (List ℕ)) (values : List RowValue) : Type 0 where
  pub kinds_are : map kind_in values ≡ kinds
  pub each : EachFits columns kinds tokens (map datum_in values)

read_text : (plan : Planned) (line : List ℕ) (columns : List Column) (kinds : List Kind) (tokens : List (List ℕ)) (values : List RowValue) → IsScanned plan line columns kinds tokens → AreValues columns kinds tokens values → text_in plan.format values ≡ row_text plan.format plan.kinds (map datum_in values)
read_text plan line columns kinds tokens values s p = ap (λ (k : List Kind). row_text plan.format k (map datum_in values)) (p.kinds_are ∙ s.kinds_are)

read_fits : (plan : Planned) (line : List ℕ) (columns : List Column) (kinds : List Kind) (tokens : List (List ℕ)) (values : List RowValue) → IsScanned plan line columns kinds tokens → AreValues columns kinds tokens values → EachFits plan.format.columns plan.kinds tokens (map datum_in values)
read_fits plan line columns kinds tokens values s p = rw (← s.columns_are, ← s.kinds_are) p.each

-- where the values that the tokens read to print another text, the line is no row
other_text : (plan : Planned) (line : List ℕ) (columns : List Column) (kinds : List Kind) (tokens : List (List ℕ)) (values : List RowValue) → IsScanned plan line columns kinds tokens → AreValues columns kinds tokens values
    → ReadsBack → ReadsToOneList → line ≢ text_in plan.format values → (others : List Datum) → ¬ IsRow plan.format plan.kinds line others
other_text plan line columns kinds tokens values s p back once other others row =
    let read = map datum_in values in
    let same : others ≡ read = once plan.format.columns plan.kinds tokens others read (row_tokens plan line tokens others back s.text s.can s.scan row) (each_reads plan.format.columns plan.kinds tokens read (read_fits plan line columns kinds tokens values s p)) in
    other (row.text ∙ ap (row_text plan.format plan.kinds) same ∙ sym (read_text plan line columns kinds tokens values s p))

-- where there was memory, so is what is answered then
refuses : (plan : Planned) (line : List ℕ) (columns : List Column) (kinds : List Kind) (tokens : List (List ℕ)) (values : List RowValue) (why : RowError) → IsScanned plan line columns kinds tokens → AreValues columns kinds tokens values
    → ReadsBack → ReadsToOneList → (why ≡ NotARow → line ≢ text_in plan.format values) → RefusesRow plan line why
refuses plan line columns kinds tokens values NotARow s p back once other = other_text plan line columns kinds tokens values s p back once (other refl)
refuses plan line columns kinds tokens values NoMemory s p back once other = tt

is_read : (plan : Planned) (line : List ℕ) (columns : List Column) (kinds : List Kind) (tokens : List (List ℕ)) (values : List RowValue) (owned : List Value) → IsScanned plan line columns kinds tokens → AreValues columns kinds tokens values → AreOwned values owned
    → HasOneList → line ≡ text_in plan.format values → IsRead plan line owned
is_read plan line columns kinds tokens values owned s p o one same =
    let read = map datum_in values in
    let row : IsRow plan.format plan.kinds line read = record { fit = are_fit plan.format.columns plan.kinds tokens read (read_fits plan line columns kinds tokens values s p); text = same ∙ read_text plan line columns kinds tokens values s p } in
    let mine : IsRow plan.format plan.kinds line (map datum_of owned) = subst (IsRow plan.format plan.kinds line) (sym o.data_are) row in
    record { kinds = o.kinds_are ∙ p.kinds_are ∙ s.kinds_are; row = mine; only = λ others so. one plan.format plan.kinds line others (map datum_of owned) s.text s.can so mine }

-- what is answered, by the text of the values
pub answers_row : {A : Type 0} (items : A → List Value) (r : Result A RowError) (plan : Planned) (line : List ℕ) (columns : List Column) (kinds : List Kind) (tokens : List (List ℕ)) (values : List RowValue) → IsScanned plan line columns kinds tokens → AreValues columns kinds tokens values → HasOneList
    → IfOk r (λ owned. AreOwned values (items owned)) → OnOk r (line ≡ text_in plan.format values) → IfOk r (λ owned. IsRead plan line (items owned))
answers_row items (Ok owned) plan line columns kinds tokens values s p one o same = is_read plan line columns kinds tokens values (items owned) s p o one same
answers_row items (Err why) plan line columns kinds tokens values s p one o same = tt

pub answers_none : {A : Type 0} (r : Result A RowError) (plan : Planned) (line : List ℕ) (columns : List Column) (kinds : List Kind) (tokens : List (List ℕ)) (values : List RowValue) → IsScanned plan line columns kinds tokens → AreValues columns kinds tokens values → ReadsBack → ReadsToOneList
    → IfErr r (λ why. why ≡ NotARow → line ≢ text_in plan.format values) → IfErr r (RefusesRow plan line)
answers_none (Ok owned) plan line columns kinds tokens values s p back once other = tt
answers_none (Err why) plan line columns kinds tokens values s p back once other = refuses plan line columns kinds tokens values why s p back once other
