-- What is to be shown of a field's text, and that it is enough.
use Rattle.std.proofs.Common.{◌≡◌, ◌⊎◌, ◌<◌, ℕ, zero, suc, Bool, true, List, [], ◌∷◌, ◌++◌, length, replicate, Option, sym, ap, subst, refl, inl, inr, ◌∙◌, arith, chars, IsUtf8, encode_utf8_all}
use Rattle.std.proofs.lemmas.Str.{chars-append, encodes-chars}
use Rattle.sprintf.specs.declared.parser.ConversionType.{ConversionType}
use Rattle.scan_fmt.specs.Grammar.{first, Shape}
use Rattle.scan_fmt.specs.Scanned.{MayTake, IsLongest, token_text}
use Rattle.values.specs.declared.kind.Kind.{Kind}
use Rattle.values.specs.Datum.{Datum}
use Rattle.row_format.specs.Columns.{Column, field_text}
use Rattle.row_format.specs.Fit.{stop, Takes}
use Rattle.row_format.specs.Plannable.{is_exact, trailing_spaces, BeginsTaken}
use Rattle.row_format.specs.Row.{Reads}
use Rattle.row_laws.specs.Inner.Directives.{shape_of, front_of, AllBlank, BeginsSolid, Taken}
use Rattle.row_laws.proofs.Fields.Spaces.{AllSolid, Laid, laid_trail, laid_chars, only_spaces_chars, spaces_utf8}
use Rattle.row_laws.proofs.Fields.Longest.{EndsTaken}

-- the text is spaces, the front, what the shape takes, and spaces; what it takes is the longest before what it can't take, and reads to the value
pub record Standing (v : ConversionType) (kind : Kind) (value : Datum) (exact : Bool) (end : Option ℕ) (front : List ℕ) (shape : Shape) (text : List ℕ) : Type 0 where
  pub taken : List ℕ
  pub laid : Laid front taken text
  pub longest : (rest : List ℕ) → (exact ≡ true) ⊎ EndsTaken (Takes v end) rest → IsLongest (MayTake shape) (taken ++ rest) taken rest
  pub reads : Reads v kind (token_text shape taken) value

spaces_blank : (n : ℕ) → AllBlank (replicate n 32)
spaces_blank zero = tt
spaces_blank (suc n) = (refl, spaces_blank n)

begins_solid : (text : List ℕ) → 0 < length text → AllSolid text → BeginsSolid text
begins_solid [] some h = absurd (omega (arith, some))
begins_solid (c ∷ cs) some h = h.0

some_characters : (cs text : List ℕ) → encode_utf8_all cs ≡ text → 0 < length text → 0 < length cs
some_characters [] text e some = absurd (omega (arith, ap length e, some))
some_characters (c ∷ cs) text e some = omega arith

chars_behind : (m : ℕ) (trail behind : List ℕ) → trail ≡ replicate m 32 → chars (trail ++ behind) ≡ chars trail ++ chars behind
chars_behind m trail behind e = chars-append trail behind (subst IsUtf8 (sym e) (spaces_utf8 m))

ends_by : (c : Column) (exact : Bool) (m : ℕ) (trail behind : List ℕ) → trail ≡ replicate m 32 → (exact ≡ true) ⊎ (¬ BeginsTaken c (trail ++ behind))
    → (exact ≡ true) ⊎ EndsTaken (Takes c.field.conversion_type (stop c)) (chars trail ++ chars behind)
ends_by c exact m trail behind e (inl is) = inl is
ends_by c exact m trail behind e (inr not) = inr (λ d at takes. not (d, ap first (chars_behind m trail behind e) ∙ at, takes))

pub assemble : (c : Column) (kind : Kind) (value : Datum) (behind : List ℕ)
    → Standing c.field.conversion_type kind value (is_exact c.field kind) (stop c) (front_of c) (shape_of c kind) (field_text c.field kind value)
    → (is_exact c.field kind ≡ true) ⊎ (¬ BeginsTaken c (trailing_spaces (field_text c.field kind value) ++ behind)) → Taken c kind value (chars behind)
assemble c kind value behind s ends =
    let text : List ℕ = field_text c.field kind value in
    let trail : trailing_spaces text ≡ replicate s.laid.after 32 = laid_trail (front_of c) s.taken text s.laid in
    let spaces : chars (trailing_spaces text) ≡ replicate s.laid.after 32 = ap chars trail ∙ only_spaces_chars s.laid.after in
    let some : 0 < length (front_of c ++ s.taken) = subst (λ (t : List ℕ). 0 < length t) s.laid.spelled (some_characters (chars s.laid.token) s.laid.token (encodes-chars s.laid.token s.laid.utf8) s.laid.some) in
    record {
      blanks = replicate s.laid.before 32;
      taken = s.taken;
      whole = laid_chars (front_of c) s.taken text s.laid ∙ ap (λ (x : List ℕ). replicate s.laid.before 32 ++ (front_of c ++ (s.taken ++ x))) (sym spaces);
      only_blanks = spaces_blank s.laid.before;
      solid = begins_solid (front_of c ++ s.taken) some s.laid.solid;
      longest = s.longest (chars (trailing_spaces text) ++ chars behind) (ends_by c (is_exact c.field kind) s.laid.after (trailing_spaces text) behind trail ends);
      reads = s.reads;
    }
