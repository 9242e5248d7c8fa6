-- What the planned directives take from a printed row, column by column.
use Rattle.std.proofs.Common.{eqb, cond, ◌≡◌, ◌<◌, ◌⊎◌, ◌-◌, ℕ, Bool, true, false, List, [], ◌∷◌, ◌++◌, map, Option, Some, None, sym, ap, subst, refl, inl, inr, ◌∙◌, arith, append_assoc, Ok, Err}
use Rattle.std.specs.Char.{digit_value}
use Rattle.std.specs.List.{AllByRecursion, list_all}
use Rattle.std.specs.Str.{chars, IsUtf8, IsAscii}
use Rattle.std.proofs.lemmas.Bool.{cases_Bool, and_parts, eqb-true}
use Rattle.std.proofs.lemmas.Bool.Decides.{nat_tests}
use Rattle.std.proofs.lemmas.Str.{chars-append, chars-IsAscii, IsUtf8-append, IsUtf8-nil}
use Rattle.scan_fmt.specs.Grammar.{is_blank, Directive, Exactly, Field, Shape, Number, Hexadecimal}
use Rattle.scan_fmt.specs.Scanned.{IsLongest, MayTake, Token, token_text, passed, Takes}
use Rattle.scan_fmt.specs.Inner.Parts.{Outcome, with_token}
use Rattle.scan_fmt.proofs.Characters.{ascii_from}
use Rattle.scan_fmt.proofs.Digits.{Form, bare, with_x, with_0x, form_of, each_weaker}
use Rattle.sprintf.specs.declared.parser.ConversionType.{ConversionType}
use Rattle.sprintf.specs.declared.parser.ConversionType.TheVariants.{HexIntUpper}
use Rattle.values.specs.declared.kind.Kind.{Kind}
use Rattle.values.specs.Datum.{Datum, natural, integer}
use Rattle.row_format.specs.Columns.{Column, Columns, field_text, columns_text, row_text, width_of}
use Rattle.row_format.specs.Fit.{stop, AreFit}
use Rattle.row_format.specs.Laws.{IsText, AreTexts}
use Rattle.row_format.specs.Plannable.{IsUnpaired, IsLossy, RunsOn, Never, IsPlannable, is_exact, trailing_spaces, text_behind, BeginsTaken}
use Rattle.row_format.specs.Row.{StandsFor, Reads, EachReads}
use Rattle.row_laws.specs.Inner.Directives.{exactly, limit_when, shape_by, shape_of, front_by, front_of, column_directives, planned_directives, AllBlank, BeginsSolid, Taken, FieldReads}
use Rattle.row_laws.proofs.Cutting.{paired_of}
use Rattle.row_laws.proofs.Texts.{field_utf8}

none_in_front : (out : Outcome) → with_token None out ≡ out
none_in_front (Ok tokens) = refl
none_in_front (Err input) = refl

-- White space in front changes nothing.
takes_blank : (c : ℕ) (input : List ℕ) (ds : List Directive) (out : Outcome) → is_blank c ≡ true → Takes ds input out → Takes ds (c ∷ input) out
takes_blank c input [] out h take = take
takes_blank c input (d ∷ ds) out h take = rw h take

takes_blanks : (blanks input : List ℕ) (ds : List Directive) (out : Outcome) → AllBlank blanks → Takes ds input out → Takes ds (blanks ++ input) out
takes_blanks [] input ds out h take = take
takes_blanks (c ∷ blanks) input ds out h take = takes_blank c (blanks ++ input) ds out h.0 (takes_blanks blanks input ds out h.1 take)

takes_solid : (c : ℕ) (input : List ℕ) (ds : List Directive) (out : Outcome) → is_blank c ≡ false → Takes ds input out → Takes (Exactly c ∷ ds) (c ∷ input) out
takes_solid c input ds out h take = rw h (passed (λ e. absurd (cc)) None input out (refl, refl) take (sym (none_in_front out)))

takes_char : (c : ℕ) (cs input : List ℕ) (ds : List Directive) (out : Outcome) → Takes (exactly cs ++ ds) input out → Takes (exactly (c ∷ cs) ++ ds) (c ∷ input) out
takes_char c cs input ds out take = by_test (is_blank c) refl where
  by_test : (b : Bool) → is_blank c ≡ b → Takes (exactly (c ∷ cs) ++ ds) (c ∷ input) out
  by_test true h = rw h (takes_blank c input (exactly cs ++ ds) out h take)
  by_test false h = rw h (takes_solid c input (exactly cs ++ ds) out h take)

-- Literal characters take themselves.
takes_exactly : (cs input : List ℕ) (ds : List Directive) (out : Outcome) → Takes ds input out → Takes (exactly cs ++ ds) (cs ++ input) out
takes_exactly [] input ds out take = take
takes_exactly (c ∷ cs) input ds out take = takes_char c cs (cs ++ input) ds out (takes_exactly cs input ds out take)

-- A field takes its longest front.
takes_field : (shape : Shape) (taken rest : List ℕ) (ds : List Directive) (tokens : List Token) → BeginsSolid taken → IsLongest (MayTake shape) (taken ++ rest) taken rest → Takes ds rest (Ok tokens)
    → Takes (Field true shape ∷ ds) (taken ++ rest) (Ok (record { text = token_text shape taken; behind = rest } ∷ tokens))
takes_field shape [] rest ds tokens solid long take = absurd solid
takes_field shape (c ∷ cs) rest ds tokens solid long take =
    let here : is_blank c ≡ false = solid in
    rw here (passed (λ e. absurd (cc)) (Some (record { text = token_text shape (c ∷ cs); behind = rest })) rest (Ok tokens) (c ∷ cs, long, refl) take refl)

-- The spaces that end a text are white space.
all_spaces : (xs : List ℕ) → list_all (λ x. eqb x 32) xs ≡ true → AllByRecursion (λ c. c ≡ 32) xs
all_spaces [] h = tt
all_spaces (x ∷ xs) h =
    let both = and_parts (eqb x 32) (list_all (λ y. eqb y 32) xs) h in
    (eqb-true x 32 both.0, all_spaces xs both.1)

spaces_by : (b : Bool) (xs ys : List ℕ) → (b ≡ true → AllByRecursion (λ c. c ≡ 32) xs) → AllByRecursion (λ c. c ≡ 32) ys → AllByRecursion (λ c. c ≡ 32) (cond b xs ys)
spaces_by true xs ys h k = h refl
spaces_by false xs ys h k = k

trailing_each : (text : List ℕ) → AllByRecursion (λ c. c ≡ 32) (trailing_spaces text)
trailing_each [] = tt
trailing_each (c ∷ cs) = spaces_by (list_all (λ x. eqb x 32) (c ∷ cs)) (c ∷ cs) (trailing_spaces cs) (all_spaces (c ∷ cs)) (trailing_each cs)

spaces_blank : (xs : List ℕ) → AllByRecursion (λ c. c ≡ 32) xs → AllBlank xs
spaces_blank [] h = tt
spaces_blank (x ∷ xs) h = (ap is_blank h.0, spaces_blank xs h.1)

trailing_blank : (text : List ℕ) → AllBlank (chars (trailing_spaces text))
trailing_blank text =
    let each = trailing_each text in
    let low : IsAscii (trailing_spaces text) = ascii_from (trailing_spaces text) (each_weaker (λ c. c ≡ 32) (λ c. c < 128) (trailing_spaces text) (λ c e. omega arith) each) in
    subst AllBlank (sym (chars-IsAscii (trailing_spaces text) low)) (spaces_blank (trailing_spaces text) each)

-- What a field takes begins with no white space, also behind a prefix.
hexadecimal_solid : (c : ℕ) (cs : List ℕ) → Form (c ∷ cs) → is_blank c ≡ false
hexadecimal_solid c cs (bare each) = let digit : digit_value c < 16 = each.0 in grind (arith, nat_tests)
hexadecimal_solid c cs (with_x ds e each) = let same : c ≡ 120 = cc in ap is_blank same
hexadecimal_solid c cs (with_0x ds e each) = let same : c ≡ 48 = cc in ap is_blank same

behind_prefix : (kind : Kind) (limit : Option ℕ) (taken : List ℕ) (value : Datum) → MayTake (Number Hexadecimal limit) taken → StandsFor 16 kind (token_text (Number Hexadecimal limit) taken) value → BeginsSolid taken
behind_prefix kind limit [] (natural n) may reads = absurd (omega (arith, reads.0.0))
behind_prefix kind limit [] (integer z) may reads = absurd (omega (arith, reads.0.0))
behind_prefix kind limit [] value may reads = absurd reads
behind_prefix kind limit (c ∷ cs) value may reads = hexadecimal_solid c cs (form_of (c ∷ cs) may.0)

taken_solid : (v : ConversionType) (kind : Kind) (alternate exact : Bool) (width : ℕ) (end : Option ℕ) (taken : List ℕ) (value : Datum) → BeginsSolid (front_by v alternate ++ taken)
    → MayTake (shape_by v alternate exact width end) taken → Reads v kind (token_text (shape_by v alternate exact width end) taken) value → BeginsSolid taken
taken_solid HexIntUpper kind true exact width end taken value solid may reads = behind_prefix kind (limit_when exact (width - 2)) taken value may reads
taken_solid v kind alternate exact width end taken value solid may reads = solid

regroup : (blanks front taken trail more : List ℕ) → (blanks ++ (front ++ (taken ++ trail))) ++ more ≡ blanks ++ (front ++ (taken ++ (trail ++ more)))
regroup blanks front taken trail more = simp append_assoc

-- A field that is taken, and the literal text behind it.
column_takes : (c : Column) (kind : Kind) (value : Datum) (more : List ℕ) (ds : List Directive) (tokens : List Token) → IsUtf8 (field_text c.field kind value) → IsUtf8 c.after
    → Taken c kind value (chars (c.after ++ more)) → Takes ds (chars more) (Ok tokens)
    → (token : Token) × Reads c.field.conversion_type kind token.text value
    × Takes (exactly (front_of c) ++ (Field true (shape_of c kind) ∷ (exactly (chars c.after) ++ ds))) (chars (field_text c.field kind value ++ (c.after ++ more))) (Ok (token ∷ tokens))
column_takes c kind value more ds tokens field after t take =
    let behind = chars (c.after ++ more) in
    let trail = chars (trailing_spaces (field_text c.field kind value)) in
    let later = exactly (chars c.after) ++ ds in
    let token : Token = record { text = token_text (shape_of c kind) t.taken; behind = trail ++ behind } in
    let literal : Takes later behind (Ok tokens) = subst (λ (input : List ℕ). Takes later input (Ok tokens)) (sym (chars-append c.after more after)) (takes_exactly (chars c.after) (chars more) ds (Ok tokens) take) in
    let spaces : Takes later (trail ++ behind) (Ok tokens) = takes_blanks trail behind later (Ok tokens) (trailing_blank (field_text c.field kind value)) literal in
    let solid : BeginsSolid t.taken = taken_solid c.field.conversion_type kind c.field.alt_form (is_exact c.field kind) (width_of c.field) (stop c) t.taken value t.solid t.longest.shape t.reads in
    let field_takes : Takes (Field true (shape_of c kind) ∷ later) (t.taken ++ (trail ++ behind)) (Ok (token ∷ tokens)) = takes_field (shape_of c kind) t.taken (trail ++ behind) later tokens solid t.longest spaces in
    let front_takes = takes_exactly (front_of c) (t.taken ++ (trail ++ behind)) (Field true (shape_of c kind) ∷ later) (Ok (token ∷ tokens)) field_takes in
    let all = takes_blanks t.blanks (front_of c ++ (t.taken ++ (trail ++ behind))) (exactly (front_of c) ++ (Field true (shape_of c kind) ∷ later)) (Ok (token ∷ tokens)) t.only_blanks front_takes in
    let is : chars (field_text c.field kind value ++ (c.after ++ more)) ≡ t.blanks ++ (front_of c ++ (t.taken ++ (trail ++ behind))) =
    chars-append (field_text c.field kind value) (c.after ++ more) field ∙ ap (λ (s : List ℕ). s ++ behind) t.whole ∙ regroup t.blanks (front_of c) t.taken trail behind in
    (token, t.reads, subst (λ (input : List ℕ). Takes (exactly (front_of c) ++ (Field true (shape_of c kind) ∷ later)) input (Ok (token ∷ tokens))) (sym is) all)

-- The directives of columns take from the columns' text tokens that read to the values.
abbrev pub ReadsColumns : List Column → List Kind → List Datum → Type 0
ReadsColumns cs kinds values = (tokens : List Token) × Takes (column_directives cs kinds) (chars (columns_text cs kinds values)) (Ok tokens) × EachReads cs kinds (map (λ (t : Token). t.text) tokens) values

-- No field runs on over the values at hand.
apart_here : (c : Column) (kind : Kind) (value : Datum) (cs : List Column) (kinds : List Kind) (values : List Datum) → ¬ RunsOn (c ∷ cs) (kind ∷ kinds) → AreFit (c ∷ cs) (kind ∷ kinds) (value ∷ values)
    → (is_exact c.field kind ≡ true) ⊎ (¬ BeginsTaken c (text_behind c kind value cs kinds values))
apart_here c kind value cs kinds values apart fit =
    elim (cases_Bool (is_exact c.field kind)) [ inl exact ↦ inl exact | inr inexact ↦ inr (λ begins. apart (inexact, (value, values, fit, begins))) ]

columns_take : FieldReads → (cs : List Column) (kinds : List Kind) (values : List Datum) → AreTexts cs → Never IsUnpaired cs kinds → Never IsLossy cs kinds → Never RunsOn cs kinds → AreFit cs kinds values
    → ReadsColumns cs kinds values × IsUtf8 (columns_text cs kinds values)
columns_take fields [] [] [] texts pairs whole apart fit = (([], refl, tt), IsUtf8-nil)
columns_take fields [] [] (value ∷ values) texts pairs whole apart fit = absurd fit
columns_take fields [] (kind ∷ kinds) values texts pairs whole apart fit = absurd (pairs tt)
columns_take fields (c ∷ cs) [] values texts pairs whole apart fit = absurd (pairs tt)
columns_take fields (c ∷ cs) (kind ∷ kinds) [] texts pairs whole apart fit = absurd fit
columns_take fields (c ∷ cs) (kind ∷ kinds) (value ∷ values) texts pairs whole apart fit =
    let rest = columns_take fields cs kinds values texts.2 pairs.1 whole.1 apart.1 fit.1 in
    let more = columns_text cs kinds values in
    let field : IsUtf8 (field_text c.field kind value) = field_utf8 c kind value whole.0 fit.0 in
    let behind : IsUtf8 (c.after ++ more) = IsUtf8-append c.after more texts.0 rest.1 in
    let taken = fields c kind value (c.after ++ more) (paired_of c kind pairs.0) whole.0 fit.0 behind (apart_here c kind value cs kinds values apart.0 fit) in
    let one = column_takes c kind value more (column_directives cs kinds) rest.0.0 field texts.0 taken rest.0.1 in
    ((one.0 ∷ rest.0.0, one.2, (fit.0.0, one.1, rest.0.2)), IsUtf8-append (field_text c.field kind value) (c.after ++ more) field behind)

-- The planned directives take from a row tokens that read to its values.
pub row_takes : FieldReads → (format : Columns) (kinds : List Kind) (values : List Datum) → IsText format → IsPlannable format.columns kinds → AreFit format.columns kinds values
    → (tokens : List Token) × Takes (planned_directives format kinds) (chars (row_text format kinds values)) (Ok tokens) × EachReads format.columns kinds (map (λ (t : Token). t.text) tokens) values
row_takes fields format kinds values text plan fit =
    let rest = columns_take fields format.columns kinds values text.1 plan.paired plan.whole plan.apart fit in
    let more = columns_text format.columns kinds values in
    let take = takes_exactly (chars format.head) (chars more) (column_directives format.columns kinds) (Ok rest.0.0) rest.0.1 in
    (rest.0.0, subst (λ (input : List ℕ). Takes (planned_directives format kinds) input (Ok rest.0.0)) (sym (chars-append format.head more text.0)) take, rest.0.2)
