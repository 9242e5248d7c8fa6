-- What plain placeholders of formatx print.
use Rattle.std.proofs.Common.{◌≡◌, ℕ, suc, ◌+◌, Bool, true, false, if◌then◌else◌, List, [], ◌∷◌, ◌++◌, drop, codes, slice_get, Option, Some, None, IfSome, Result, Ok, refl, sym, ap, subst, ◌∙◌, arith, append-nil, append_assoc}
use Rattle.std.specs.Prelude.{option_and_then}
use Rattle.std.proofs.lemmas.Bool.Decides.{nat_tests}
use Rattle.formatx.specs.Arguments.{value_at, argument_takes}
use Rattle.formatx.specs.Fault.{Fault}
use Rattle.formatx.specs.Field.{Body, body_of, by_shape, gap_of, laid_out, shaped}
use Rattle.formatx.specs.Scene.{Scene, covered}
use Rattle.formatx.specs.Spans.{no_options}
use Rattle.formatx.specs.Text.{Outcome, argument_text, continued, placeholder_text, present_text, rendered, segment_takes, segment_text, whole}
use Rattle.formatx.specs.Values.{Meaning}
use Rattle.formatx.specs.Words.{begins}
use Rattle.formatx.specs.declared.ast.Argument.{Argument}
use Rattle.formatx.specs.declared.ast.Argument.TheVariants.{Implicit, Positional, Named}
use Rattle.formatx.specs.declared.ast.FormatSpec.{FormatSpec}
use Rattle.formatx.specs.declared.ast.FormatType.{FormatType}
use Rattle.formatx.specs.declared.ast.Placeholder.{Placeholder}
use Rattle.formatx.specs.declared.ast.Segment.{Segment}
use Rattle.formatx.specs.declared.ast.Segment.TheVariants.{Literal, EscapedOpen, EscapedClose, Placeholder as Placed}
use Rattle.formatx.specs.declared.ast.Span.{Span}
use Rattle.formatx.specs.declared.value.Shape.{Shape}
use Rattle.formatx.specs.declared.value.Shape.TheVariants.{Integer, Text, Raw}
use Rattle.formatx.specs.Grammar.{Spells}
use Rattle.printer.specs.declared.dialect.Dialect.TheVariants.{Formatx}
use Rattle.values.specs.declared.kind.Kind.{Kind}
use Rattle.values.specs.declared.kind.Kind.TheVariants as Of
use Rattle.values.specs.Templates.{formatx_meaning}
use Rattle.tokens.specs.declared.Token.{Token}
use Rattle.tokens.specs.Tokens.{IsToken, datum_at}
use Rattle.pieces.specs.declared.layout.Form.{Form}
use Rattle.pieces.specs.Inner.Layout.{Parts, Grows, form_of, layout_text, text_where, token_text}
use Rattle.pieces.specs.Inner.Formatx.{IsPlain, IsWhole, Moves, place_of, place_after, rendered_behind, scene}
use Rattle.pieces.specs.Inner.Sound.{HasForm, StandsFor}
use Rattle.pieces.proofs.ValueLemmas.{here}

-- ---- a value without options

-- a text is what its front byte is, and the rest
front_is : (text : List ℕ) (c : ℕ) → begins text (suc c) ≡ true → suc c ∷ drop 1 text ≡ text
front_is [] c e = let no : 0 ≡ suc c = grind (arith, nat_tests) in let bad : ⊥ = omega arith in absurd bad
front_is (x ∷ text) c e = let same : suc c ≡ x = grind (arith, nat_tests) in ap (λ (y : ℕ). y ∷ text) same

-- a sign and what follows it are the number's text
number_whole : (text : List ℕ) (b : Bool) → begins text 45 ≡ b → let body : Body = if b then record { sign = codes "-"; rest = drop 1 text } else record { sign = []; rest = text } in body.sign ++ body.rest ≡ text
number_whole text true e = front_is text 44 e
number_whole text false e = refl

body_whole : (shape : Shape) (text : List ℕ) → (body_of shape None None text).sign ++ (body_of shape None None text).rest ≡ text
body_whole Integer text = number_whole text (begins text 45) refl
body_whole Text text = refl
body_whole Raw text = refl

-- no padding is put around a body
laid_bare : (shape : Shape) (fill : ℕ) (body : Body) → laid_out fill (by_shape shape false 0) body ≡ body.sign ++ body.rest
laid_bare Integer fill body = append-nil (body.sign ++ [] ++ body.rest) ∙ ap (λ (t : List ℕ). t ++ body.rest) (append-nil body.sign)
laid_bare Text fill body = append-nil (body.sign ++ [] ++ body.rest) ∙ ap (λ (t : List ℕ). t ++ body.rest) (append-nil body.sign)
laid_bare Raw fill body = append-nil (body.sign ++ [] ++ body.rest) ∙ ap (λ (t : List ℕ). t ++ body.rest) (append-nil body.sign)

shaped_bare : (shape : Shape) (text : List ℕ) → shaped no_options shape None None text ≡ text
shaped_bare shape text =
    let body : Body = body_of shape None None text in
    let none : gap_of None body ≡ 0 = omega arith in
    ap (λ (gap : ℕ). laid_out 32 (by_shape shape false gap) body) none ∙ laid_bare shape 32 body ∙ body_whole shape text

-- a plain specification is the one without options
plain_is : (spec : FormatSpec) → IsPlain spec → spec ≡ no_options
plain_is spec p = p.bare ∙ ap (λ (t : FormatType). record no_options { format_type = t }) p.display

present_bare : (s : Scene) (argument : Argument) (span : Span) (m : Meaning) → present_text s (record { argument = argument; spec = no_options; span = span }) None m ≡ Ok m.display
present_bare s argument span m = ap (λ (t : List ℕ). Ok t) (shaped_bare m.display_shape m.display)

placeholder_bare : (s : Scene) (next : ℕ) (argument : Argument) (span : Span) (m : Meaning) → value_at s next argument ≡ Some m → s.strict ≡ true → placeholder_text s next (record { argument = argument; spec = no_options; span = span }) ≡ Ok m.display
placeholder_bare s next argument span m at strict =
    let own : next + 0 ≡ next = omega arith in
    let p : Placeholder = record { argument = argument; spec = no_options; span = span } in
    ap (λ (n : ℕ). argument_text s n p None (value_at s n argument)) own
    ∙ ap (λ (v : Option Meaning). argument_text s next p None v) at
    ∙ present_bare s argument span m

-- ---- tokens

abbrev told : Option Form → List ℕ → Token → List ℕ
told (Some form) row token = token_text form row token
told None row token = []

-- the display of a token's value is its text
token_told : (kind : Kind) (row : List ℕ) (token : Token) → IsToken kind row token → (formatx_meaning kind (datum_at kind row token)).display ≡ told (form_of kind) row token
token_told Of.U8 row token is = refl
token_told Of.U16 row token is = refl
token_told Of.U32 row token is = refl
token_told Of.U64 row token is = refl
token_told Of.Usize row token is = refl
token_told Of.I8 row token is = refl
token_told Of.I16 row token is = refl
token_told Of.I32 row token is = refl
token_told Of.I64 row token is = refl
token_told Of.Isize row token is = refl
token_told Of.Word row token is = refl
token_told Of.Char row token is = absurd is.value

-- ---- segments

continued-continued : (a b : List ℕ) (o : Outcome) → continued (Ok a) (continued (Ok b) o) ≡ continued (Ok (a ++ b)) o
continued-continued a b o = ap (λ (t : List ℕ). record { text = t; fault = o.fault }) (sym (append_assoc a b o.text))

-- a segment that prints a text, and by which the layout grows
segment_moves : (template : List ℕ) (names : List (List ℕ)) (kinds : List Kind) (old new : Parts) (s : Segment) (rest : List Segment) (next after : ℕ) (row : List ℕ) (tokens : List Token) (text : List ℕ)
    → segment_text (scene template names kinds row tokens) next s ≡ Ok text → next + segment_takes s ≡ after → layout_text new row tokens ≡ layout_text old row tokens ++ text
    → rendered_behind template names old (s ∷ rest) next kinds row tokens ≡ rendered_behind template names new rest after kinds row tokens
segment_moves template names kinds old new s rest next after row tokens text e at grown =
    let own : Scene = scene template names kinds row tokens in
    let before : List ℕ = layout_text old row tokens in
    ap (λ (r : Result (List ℕ) Fault). continued (Ok before) (continued r (rendered own (next + segment_takes s) rest))) e
    ∙ continued-continued before text (rendered own (next + segment_takes s) rest)
    ∙ ap (λ (t : List ℕ). continued (Ok t) (rendered own (next + segment_takes s) rest)) (sym grown)
    ∙ ap (λ (n : ℕ). continued (Ok (layout_text new row tokens)) (rendered own n rest)) at

pub literal_moves : (template : List ℕ) (names : List (List ℕ)) (kinds : List Kind) (old new : Parts) (span : Span) (rest : List Segment) (next : ℕ) → Grows old new (λ row tokens. covered template span) → Moves template names kinds old (Literal span ∷ rest) next new rest next
literal_moves template names kinds old new span rest next grows row tokens are =
    segment_moves template names kinds old new (Literal span) rest next next row tokens (covered template span) refl (let e : next + 0 ≡ next = omega arith in e) (grows row tokens)

pub open_moves : (template : List ℕ) (names : List (List ℕ)) (kinds : List Kind) (old new : Parts) (rest : List Segment) (next : ℕ) → Grows old new (λ row tokens. codes "{") → Moves template names kinds old (EscapedOpen ∷ rest) next new rest next
open_moves template names kinds old new rest next grows row tokens are =
    segment_moves template names kinds old new EscapedOpen rest next next row tokens (codes "{") refl (let e : next + 0 ≡ next = omega arith in e) (grows row tokens)

pub close_moves : (template : List ℕ) (names : List (List ℕ)) (kinds : List Kind) (old new : Parts) (rest : List Segment) (next : ℕ) → Grows old new (λ row tokens. codes "}") → Moves template names kinds old (EscapedClose ∷ rest) next new rest next
close_moves template names kinds old new rest next grows row tokens are =
    segment_moves template names kinds old new EscapedClose rest next next row tokens (codes "}") refl (let e : next + 0 ≡ next = omega arith in e) (grows row tokens)

-- the value of an argument
value_of : (template : List ℕ) (names : List (List ℕ)) (kinds : List Kind) (row : List ℕ) (tokens : List Token) (next place : ℕ) (argument : Argument) → place_of template names argument next ≡ Some place
    → value_at (scene template names kinds row tokens) next argument ≡ slice_get (scene template names kinds row tokens).values place
value_of template names kinds row tokens next place Implicit e = ap (option_and_then (λ i. slice_get (scene template names kinds row tokens).values i)) e
value_of template names kinds row tokens next place (Positional i) e = ap (option_and_then (λ i. slice_get (scene template names kinds row tokens).values i)) e
value_of template names kinds row tokens next place (Named span) e = ap (option_and_then (λ i. slice_get (scene template names kinds row tokens).values i)) e

taken : (argument : Argument) (next : ℕ) → next + (0 + argument_takes argument) ≡ place_after argument next
taken argument next = omega arith

bare_moves : (template : List ℕ) (names : List (List ℕ)) (kinds : List Kind) (old new : Parts) (argument : Argument) (span : Span) (rest : List Segment) (next place after : ℕ) (form : Form)
    → place_of template names argument next ≡ Some place → HasForm kinds place form → after ≡ place_after argument next → Grows old new (λ row tokens. text_where form row (slice_get tokens place))
    → Moves template names kinds old (Placed (record { argument = argument; spec = no_options; span = span }) ∷ rest) next new rest after
bare_moves template names kinds old new argument span rest next place after form e has is_after grows row tokens are =
    let h = here formatx_meaning kinds row tokens place has.0 are has.1 in
    let own : Scene = scene template names kinds row tokens in
    let m : Meaning = formatx_meaning has.0 (datum_at has.0 row h.token) in
    let text : List ℕ = token_text form row h.token in
    let there : value_at own next argument ≡ Some m = value_of template names kinds row tokens next place argument e ∙ h.value in
    let shown : m.display ≡ text = token_told has.0 row h.token h.is ∙ ap (λ (o : Option Form). told o row h.token) has.2 in
    let grown : layout_text new row tokens ≡ layout_text old row tokens ++ text = grows row tokens ∙ ap (λ (o : Option Token). layout_text old row tokens ++ text_where form row o) h.at in
    segment_moves template names kinds old new (Placed (record { argument = argument; spec = no_options; span = span })) rest next after row tokens text
    (placeholder_bare own next argument span m there refl ∙ ap (λ (t : List ℕ). Ok t) shown) (taken argument next ∙ sym is_after) grown

pub placeholder_moves : (template : List ℕ) (names : List (List ℕ)) (kinds : List Kind) (old new : Parts) (p : Placeholder) (rest : List Segment) (next place after : ℕ) (form : Form)
    → IsPlain p.spec → place_of template names p.argument next ≡ Some place → HasForm kinds place form → after ≡ place_after p.argument next → Grows old new (λ row tokens. text_where form row (slice_get tokens place))
    → Moves template names kinds old (Placed p ∷ rest) next new rest after
placeholder_moves template names kinds old new p rest next place after form plain e has is_after grows =
    subst (λ (spec : FormatSpec). Moves template names kinds old (Placed (record { argument = p.argument; spec = spec; span = p.span }) ∷ rest) next new rest after) (sym (plain_is p.spec plain))
    (bare_moves template names kinds old new p.argument p.span rest next place after form e has is_after grows)

-- ---- the whole

pub start : (template : List ℕ) (names : List (List ℕ)) (kinds : List Kind) (segments : List Segment) (layout : Parts) (row : List ℕ) (tokens : List Token) → layout_text layout row tokens ≡ [] → rendered (scene template names kinds row tokens) 0 segments ≡ rendered_behind template names layout segments 0 kinds row tokens
start template names kinds segments layout row tokens e = ap (λ (t : List ℕ). continued (Ok t) (rendered (scene template names kinds row tokens) 0 segments)) (sym e)

pub finish : (template : List ℕ) (names : List (List ℕ)) (kinds : List Kind) (layout : Parts) (next : ℕ) (row : List ℕ) (tokens : List Token) → whole (rendered_behind template names layout [] next kinds row tokens) ≡ Ok (layout_text layout row tokens)
finish template names kinds layout next row tokens = ap (λ (t : List ℕ). Ok t) (append-nil (layout_text layout row tokens))

-- a layout that holds the segments of a template stands for it
pub stands : (template : List ℕ) (names : List (List ℕ)) (kinds : List Kind) (segments : List Segment) → Spells template segments → (found : Option Parts) → IfSome found (IsWhole template names kinds segments) → IfSome found (StandsFor Formatx template names kinds)
stands template names kinds segments spells None h = tt
stands template names kinds segments spells (Some layout) h = λ row tokens are. (Ok (layout_text layout row tokens), (segments, spells, h row tokens are), refl)
