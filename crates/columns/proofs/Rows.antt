-- One step more of a row.
use Rattle.std.proofs.Common.{◌≡◌, ◌<◌, ◌≤◌, ◌+◌, ◌-◌, ℕ, List, [], ◌∷◌, ◌++◌, length, take, drop, get_or, Option, Some, None, MatchOption, IfSome, sym, ap, subst, refl, ◌∙◌, arith, length-append, append_assoc, zero, suc}
use Rattle.std.specs.Str.{IsUtf8, IsCharBoundary}
use Rattle.std.proofs.lemmas.Fmt.{IsAscii-from_digits}
use Rattle.std.proofs.lemmas.Str.{IsUtf8-drop, IsUtf8-from_ascii, IsCharBoundary-from_take, IsCharBoundary-from_drop}
use Rattle.values.specs.declared.kind.Kind.TheVariants.{Word as WordKind}
use Rattle.columns.specs.declared.take.Take.TheVariants.{Natural, Filled, Integer, Bits, Word}
use Rattle.std.proofs.Math.Seq.{take-append_seam, drop-append_seam}
use Rattle.std.proofs.lemmas.List.{map_push, take_more, append-nil, drop-drop, take_rest}
use Rattle.sprintf.specs.declared.parser.ConversionSpecifier.{ConversionSpecifier}
use Rattle.values.specs.declared.kind.Kind.{Kind}
use Rattle.values.specs.Datum.{Datum}
use Rattle.row_format.specs.Columns.{Column, field_text, columns_text}
use Rattle.row_format.specs.Fit.{IsFit, AreFit}
use Rattle.columns.specs.Fields.{token_text, IsFieldAt, AreFieldsAt}
use Rattle.tokens.specs.Tokens.{datum_at, data_of, IsToken, AreTokens, IsPrintedWhole}
use Rattle.columns.specs.Inner.Serves.{Serves, IsServed}
use Rattle.columns.specs.Inner.Shapes.{Shape, IsTaken}
use Rattle.columns.specs.Inner.Steps.{column_of, columns_of, kinds_of, IsServedStep, AreServed, IsEnd, IsStepRead, AreStepsRead}
use Rattle.columns.specs.declared.take.Take.{Take}
use Rattle.columns.specs.declared.step.Step.{Step}
use Rattle.columns.proofs.Integers.{integer_utf8}
use Rattle.columns.proofs.Forms.{form_utf8}
use Rattle.tokens.specs.declared.Token.{Token}

pub some_of_match : {A : Type 0} (r : Option A) (P : Type 0) (Q : A → Type 0) → MatchOption r P Q → IfSome r Q
some_of_match None P Q h = tt
some_of_match (Some x) P Q h = h

-- what stands behind a text within a text is one
utf8_behind : (text front rest : List ℕ) → text ≡ front ++ rest → IsUtf8 text → IsUtf8 front → IsUtf8 rest
utf8_behind text front rest whole utf8 front_utf8 =
    let long : length front ≤ length text = omega (arith, ap length whole, length-append front rest) in
    let cut : take (length front) text ≡ front = ap (take (length front)) whole ∙ take-append_seam front rest in
    let left : drop (length front) text ≡ rest = ap (drop (length front)) whole ∙ drop-append_seam front rest in
    subst IsUtf8 left (IsUtf8-drop text (length front) utf8 (IsCharBoundary-from_take text (length front) utf8 long (subst IsUtf8 (sym cut) front_utf8)))

-- what a field takes is a text
shape_utf8 : (take_by : Take) (text : List ℕ) (number : ℕ) → Shape take_by text number → IsUtf8 text
shape_utf8 (Natural greatest) text number shape = IsUtf8-from_ascii text (IsAscii-from_digits text shape.0.digits.digits)
shape_utf8 (Filled greatest width most) text number shape = IsUtf8-from_ascii text (IsAscii-from_digits text shape.0.digits.digits)
shape_utf8 (Integer greatest plus) text number shape = integer_utf8 greatest plus text number shape
shape_utf8 (Bits form) text number shape = form_utf8 form text number shape
shape_utf8 (Word stop) text number shape = shape.1.utf8

printed_whole : (column : Column) (kind : Kind) (row : List ℕ) (token : Token) → IsFit column kind (datum_at kind row token) → length (token_text row token) ≡ token.end - token.start → IsPrintedWhole kind token
printed_whole column WordKind row token fit len = omega (arith, fit.1.1, len)
printed_whole column _ row token fit len = tt

-- what stands behind a front of the end of a row is its end too
pub end_behind : (row text front rest : List ℕ) → IsEnd row text → text ≡ front ++ rest → IsUtf8 front → IsEnd row rest
end_behind row text front rest end whole front_utf8 =
    let len : length text ≡ length front + length rest = ap length whole ∙ length-append front rest in
    record {
      short = omega (arith, len, end.short);
      is = sym (drop-append_seam front rest) ∙ ap (drop (length front)) (sym whole ∙ end.is) ∙ drop-drop (length front) (length row - length text) row
          ∙ ap (λ k. drop k row) (omega (arith, len, end.short));
      utf8 = utf8_behind text front rest whole end.utf8 front_utf8;
    }

-- there a character begins
end_begins : (row text : List ℕ) → IsEnd row text → IsCharBoundary row (length row - length text)
end_begins row text end = IsCharBoundary-from_drop row (length row - length text) (omega arith) (subst IsUtf8 end.is end.utf8)

pub whole_row : (row : List ℕ) → IsUtf8 row → IsEnd row row
whole_row row utf8 = record { utf8 = utf8; short = omega arith; is = ap (λ k. drop k row) (let e : 0 ≡ length row - length row = omega arith in e) }

-- the token stands where its text does
token_there : (row text token rest : List ℕ) → IsEnd row text → text ≡ token ++ rest → take ((length row - length rest) - (length row - length text)) (drop (length row - length text) row) ≡ token
token_there row text token rest end whole =
    let len : length text ≡ length token + length rest = ap length whole ∙ length-append token rest in
    let so : (length row - length rest) - (length row - length text) ≡ length token = omega (arith, len, end.short) in
    ap (λ k. take k (drop (length row - length text) row)) so ∙ ap (take (length token)) (sym end.is ∙ whole) ∙ take-append_seam token rest

pub step_read : (field : ConversionSpecifier) (kind : Kind) (after : List ℕ) (take_by : Take) (row text rest behind : List ℕ) (number : ℕ) → IsUtf8 after → Serves field kind after take_by → IsEnd row text → IsTaken take_by text number rest → rest ≡ after ++ behind
    → IsStepRead (record { field = field; after = after }) kind row text (record { number = number; start = length row - length text; end = length row - length rest }) behind
step_read field kind after take_by row text rest behind number after_utf8 serves end taken further =
    let token : Token = record { number = number; start = length row - length text; end = length row - length rest } in
    let there : token_text row token ≡ taken.token = token_there row text taken.token rest end taken.whole in
    let served : IsServed field kind after row token = serves row token (subst (λ (t : List ℕ). Shape take_by t number) (sym there) taken.shape) in
    let len : length text ≡ length taken.token + length rest = ap length taken.whole ∙ length-append taken.token rest in
    let token_utf8 : IsUtf8 taken.token = shape_utf8 take_by taken.token number taken.shape in
    let later : IsEnd row rest = end_behind row text taken.token rest end taken.whole token_utf8 in
    record {
      fit = served.fit;
      at = record {
        ordered = omega (arith, len, end.short);
        starts = end_begins row text end;
        ends = end_begins row rest later;
        value = served.fit.0;
        whole = printed_whole (record { field = field; after = after }) kind row token served.fit (ap length there ∙ omega (arith, len, end.short));
      };
      field = record { ordered = omega (arith, len, end.short); within = omega arith; text = served.text };
      whole = taken.whole ∙ ap (λ (t : List ℕ). t ++ rest) (sym there ∙ served.text) ∙ ap (λ (t : List ℕ). field_text field kind (datum_at kind row token) ++ t) further;
      end = end_behind row rest after behind later further after_utf8;
    }

-- one column more

fit_push : (cs : List Column) (ks : List Kind) (vs : List Datum) (c : Column) (k : Kind) (v : Datum) → AreFit cs ks vs → IsFit c k v → AreFit (cs ++ c ∷ []) (ks ++ k ∷ []) (vs ++ v ∷ [])
fit_push [] [] [] c k v all one = (one, tt)
fit_push (d ∷ cs) (l ∷ ks) (w ∷ vs) c k v all one = (all.0, fit_push cs ks vs c k v all.1 one)
fit_push [] [] (w ∷ vs) c k v all one = absurd all
fit_push [] (l ∷ ks) vs c k v all one = absurd all
fit_push (d ∷ cs) [] vs c k v all one = absurd all
fit_push (d ∷ cs) (l ∷ ks) [] c k v all one = absurd all

text_push : (cs : List Column) (ks : List Kind) (vs : List Datum) (c : Column) (k : Kind) (v : Datum) → AreFit cs ks vs → columns_text (cs ++ c ∷ []) (ks ++ k ∷ []) (vs ++ v ∷ []) ≡ columns_text cs ks vs ++ (field_text c.field k v ++ c.after)
text_push [] [] [] c k v all = ap (λ (t : List ℕ). field_text c.field k v ++ t) (append-nil c.after)
text_push (d ∷ cs) (l ∷ ks) (w ∷ vs) c k v all =
    ap (λ (t : List ℕ). field_text d.field l w ++ (d.after ++ t)) (text_push cs ks vs c k v all.1)
    ∙ ap (λ (t : List ℕ). field_text d.field l w ++ t) (sym (append_assoc d.after (columns_text cs ks vs) (field_text c.field k v ++ c.after)))
    ∙ sym (append_assoc (field_text d.field l w) (d.after ++ columns_text cs ks vs) (field_text c.field k v ++ c.after))
text_push [] [] (w ∷ vs) c k v all = absurd all
text_push [] (l ∷ ks) vs c k v all = absurd all
text_push (d ∷ cs) [] vs c k v all = absurd all
text_push (d ∷ cs) (l ∷ ks) [] c k v all = absurd all

fields_push : (cs : List Column) (ks : List Kind) (row : List ℕ) (ts : List Token) (c : Column) (k : Kind) (t : Token) → AreFieldsAt cs ks row ts → IsFieldAt c k row t → AreFieldsAt (cs ++ c ∷ []) (ks ++ k ∷ []) row (ts ++ t ∷ [])
fields_push [] [] row [] c k t all one = (one, tt)
fields_push (d ∷ cs) (l ∷ ks) row (u ∷ ts) c k t all one = (all.0, fields_push cs ks row ts c k t all.1 one)
fields_push [] [] row (u ∷ ts) c k t all one = absurd all
fields_push [] (l ∷ ks) row ts c k t all one = absurd all
fields_push (d ∷ cs) [] row ts c k t all one = absurd all
fields_push (d ∷ cs) (l ∷ ks) row [] c k t all one = absurd all

tokens_push : (ks : List Kind) (row : List ℕ) (ts : List Token) (k : Kind) (t : Token) → AreTokens ks row ts → IsToken k row t → AreTokens (ks ++ k ∷ []) row (ts ++ t ∷ [])
tokens_push [] row [] k t all one = (one, tt)
tokens_push (l ∷ ks) row (u ∷ ts) k t all one = (all.0, tokens_push ks row ts k t all.1 one)
tokens_push [] row (u ∷ ts) k t all one = absurd all
tokens_push (l ∷ ks) row [] k t all one = absurd all

data_push : (cs : List Column) (ks : List Kind) (row : List ℕ) (ts : List Token) (k : Kind) (t : Token) → AreFieldsAt cs ks row ts → data_of (ks ++ k ∷ []) row (ts ++ t ∷ []) ≡ data_of ks row ts ++ datum_at k row t ∷ []
data_push [] [] row [] k t all = refl
data_push (d ∷ cs) (l ∷ ks) row (u ∷ ts) k t all = ap (λ (vs : List Datum). datum_at l row u ∷ vs) (data_push cs ks row ts k t all.1)
data_push [] [] row (u ∷ ts) k t all = absurd all
data_push [] (l ∷ ks) row ts k t all = absurd all
data_push (d ∷ cs) [] row ts k t all = absurd all
data_push (d ∷ cs) (l ∷ ks) row [] k t all = absurd all

read_push : (cs : List Column) (ks : List Kind) (row text : List ℕ) (ts : List Token) (rest : List ℕ) (c : Column) (k : Kind) (t : Token) (later : List ℕ) → AreStepsRead cs ks row text ts rest → IsStepRead c k row rest t later
    → AreStepsRead (cs ++ c ∷ []) (ks ++ k ∷ []) row text (ts ++ t ∷ []) later
read_push cs ks row text ts rest c k t later before one =
    let vs = data_of ks row ts in
    let v = datum_at k row t in
    let longer : data_of (ks ++ k ∷ []) row (ts ++ t ∷ []) ≡ vs ++ v ∷ [] = data_push cs ks row ts k t before.fields in
    record {
      fit = subst (AreFit (cs ++ c ∷ []) (ks ++ k ∷ [])) (sym longer) (fit_push cs ks vs c k v before.fit one.fit);
      at = tokens_push ks row ts k t before.at one.at;
      fields = fields_push cs ks row ts c k t before.fields one.field;
      whole = before.whole ∙ ap (λ (x : List ℕ). columns_text cs ks vs ++ x) (one.whole ∙ sym (append_assoc (field_text c.field k v) c.after later))
          ∙ sym (append_assoc (columns_text cs ks vs) (field_text c.field k v ++ c.after) later)
          ∙ ap (λ (x : List ℕ). x ++ later) (sym (text_push cs ks vs c k v before.fit) ∙ ap (columns_text (cs ++ c ∷ []) (ks ++ k ∷ [])) (sym longer));
      end = one.end;
    }

-- one step more
pub steps_more : (steps : List Step) (i : ℕ) (step : Step) (row text : List ℕ) (tokens : List Token) (rest : List ℕ) (token : Token) (later : List ℕ) → i < length steps → step ≡ get_or steps i step
    → AreStepsRead (columns_of (take i steps)) (kinds_of (take i steps)) row text tokens rest → IsStepRead (column_of step) step.kind row rest token later
    → AreStepsRead (columns_of (take (i + 1) steps)) (kinds_of (take (i + 1) steps)) row text (tokens ++ token ∷ []) later
steps_more steps i step row text tokens rest token later within is before one =
    let longer : take (i + 1) steps ≡ take i steps ++ step ∷ [] = take_more steps i step within ∙ ap (λ (s : Step). take i steps ++ s ∷ []) (sym is) in
    subst (λ (ss : List Step). AreStepsRead (columns_of ss) (kinds_of ss) row text (tokens ++ token ∷ []) later) (sym longer)
    (subst (λ (cs : List Column). AreStepsRead cs (kinds_of (take i steps ++ step ∷ [])) row text (tokens ++ token ∷ []) later) (sym (map_push column_of (take i steps) step))
    (subst (λ (ks : List Kind). AreStepsRead (columns_of (take i steps) ++ column_of step ∷ []) ks row text (tokens ++ token ∷ []) later) (sym (map_push (λ (s : Step). s.kind) (take i steps) step))
    (read_push (columns_of (take i steps)) (kinds_of (take i steps)) row text tokens rest (column_of step) step.kind token later before one)))

pub served_at : (steps : List Step) (i : ℕ) (step : Step) → AreServed steps → i < length steps → step ≡ get_or steps i step → IsServedStep step
served_at [] i step all within is = absurd (omega (arith, within))
served_at (s ∷ steps) zero step all within is = subst IsServedStep (sym is) all.0
served_at (s ∷ steps) (suc i) step all within is = served_at steps i step all.1 (omega (arith, within)) is

pub served_push : (steps : List Step) (step : Step) → AreServed steps → IsServedStep step → AreServed (steps ++ step ∷ [])
served_push [] step all one = (one, tt)
served_push (s ∷ steps) step all one = (all.0, served_push steps step all.1 one)

-- the kind in front joins those that are done
pub kinds_more : (done left all : List Kind) (kind other : Kind) → done ++ left ≡ all → 1 ≤ length left → kind ≡ get_or left 0 other → (done ++ kind ∷ []) ++ take (length left - 1) (drop 1 left) ≡ all
kinds_more done [] all kind other is some e = absurd (omega (arith, some))
kinds_more done (l ∷ left) all kind other is some e =
    ap (λ (ks : List Kind). (done ++ kind ∷ []) ++ ks) (take_rest (l ∷ left) 1) ∙ append_assoc done (kind ∷ []) left ∙ ap (λ (k : Kind). done ++ (k ∷ left)) e ∙ is
