-- Over one input, one format gives one list of tokens.
use Rattle.std.proofs.Common.{eqb, cond, ◌≡◌, ◌≢◌, ◌<◌, ℕ, Bool, true, false, List, [], ◌∷◌, ◌++◌, Option, sym, ap, subst, refl, inl, inr, ◌∙◌, arith}
use Rattle.std.specs.Bool.{then_some}
use Rattle.std.specs.Char.{digit_value}
use Rattle.std.specs.Str.Parse.{AllDigits}
use Rattle.scan_fmt.specs.Sets.{IsListing}
use Rattle.scan_fmt.specs.Grammar.{Run, Until, Solid, Among, Decimal, Hexadecimal, Float, Characters, Number, Directive, Exactly, Field, Expression, AtEnd, first, star, limit_of, Spells, Cuts, after_blanks}
use Rattle.scan_fmt.specs.Expressions.{IsDelimited}
use Rattle.scan_fmt.specs.Inner.Fields.{Content, Shaped, Finds, Ends, caret, Names, SpellsBody, alone, named, field_of, SpellsField}
use Rattle.scan_fmt.specs.Scanned.{MayTake, token_text, Token, Scanned, Passes, ended, refused, passed, Takes, tokens_of}
use Rattle.scan_fmt.specs.Inner.Parts.{Outcome, with_token}
use Rattle.scan_fmt.proofs.Longest.{longest_one}
use Rattle.scan_fmt.proofs.Spelled.{heads, listing_one, names_head, named_longest, body_no_star, body_no_open, shape_body, expression_body, end_body}
use Rattle.scan_fmt.proofs.Patterns.{pattern_one, pattern_open}

-- what a letter names
pub by_letter : ℕ → Option ℕ → Content
by_letter k n = cond (eqb k 115) (Shaped (Characters Solid)) (cond (eqb k 100) (Shaped (Number Decimal n)) (cond (eqb k 120) (Shaped (Number Hexadecimal n)) (cond (eqb k 102) (Shaped (Number Float n)) Ends)))

-- a name is a letter, a set or a pattern
pub data Name (s : Content) (n : Option ℕ) (name rest : List ℕ) : Type 0 where
  letter : (k : ℕ) → s ≡ by_letter k n → k ≢ 91 → k ≢ 47 → name ≡ k ∷ 125 ∷ rest → Name s n name rest
  set : (inverted : Bool) (listing : List ℕ) → s ≡ Shaped (Characters (Among inverted listing)) → name ≡ 91 ∷ (caret inverted ++ (listing ++ 93 ∷ 125 ∷ rest)) → IsListing inverted listing → Name s n name rest
  slashes : (pattern : List ℕ) → s ≡ Finds pattern → name ≡ 47 ∷ (pattern ++ 47 ∷ 125 ∷ rest) → IsDelimited pattern → Name s n name rest

pub name_of : (s : Content) (n : Option ℕ) (name rest : List ℕ) → Names s n name rest → Name s n name rest
unfolding by_letter
name_of (Shaped (Characters (Until stop))) n name rest h = absurd h
name_of (Shaped (Characters Solid)) n name rest h = letter 115 refl (λ e. omega arith) (λ e. omega arith) h
name_of (Shaped (Characters (Among inverted listing))) n name rest h = set inverted listing refl h.0 h.1
name_of (Shaped (Number Decimal own)) n name rest h = letter 100 (ap (λ (l : Option ℕ). Shaped (Number Decimal l)) h.1) (λ e. omega arith) (λ e. omega arith) h.0
name_of (Shaped (Number Hexadecimal own)) n name rest h = letter 120 (ap (λ (l : Option ℕ). Shaped (Number Hexadecimal l)) h.1) (λ e. omega arith) (λ e. omega arith) h.0
name_of (Shaped (Number Float own)) n name rest h = letter 102 (ap (λ (l : Option ℕ). Shaped (Number Float l)) h.1) (λ e. omega arith) (λ e. omega arith) h.0
name_of (Finds pattern) n name rest h = slashes pattern refl h.0 h.1
name_of Ends n name rest h = letter 101 refl (λ e. omega arith) (λ e. omega arith) h

other_heads : ◌≡◌ {A = ℕ} 91 47 → ⊥
other_heads e = omega arith

-- nothing is named after a slash, where no pattern is closed
pub slash_none : (text : List ℕ) → ((p rest : List ℕ) → text ≡ p ++ 47 ∷ 125 ∷ rest → IsDelimited p → ⊥) → (s : Content) (n : Option ℕ) (rest : List ℕ) → Names s n (47 ∷ text) rest → ⊥
slash_none text none s n rest h = refute (name_of s n (47 ∷ text) rest h) where
  refute : Name s n (47 ∷ text) rest → ⊥
  refute (letter k is h g e) = g (sym (heads 47 k text (125 ∷ rest) e).0)
  refute (set i l is e h) = other_heads (sym (heads 47 91 text (caret i ++ (l ++ 93 ∷ 125 ∷ rest)) e).0)
  refute (slashes p is e h) = none p rest (heads 47 47 text (p ++ 47 ∷ 125 ∷ rest) e).1 h

pub slash_open : (text p r : List ℕ) → text ≡ p ++ 47 ∷ r → IsDelimited p → ((rest : List ℕ) → r ≢ 125 ∷ rest) → (s : Content) (n : Option ℕ) (rest : List ℕ) → Names s n (47 ∷ text) rest → ⊥
slash_open text p r whole has none = slash_none text (pattern_open text p r whole has none)

pub uninverted : (l : List ℕ) → IsListing false l → IsListing true l
uninverted [] h = absurd h
uninverted (c ∷ cs) h = ((λ e. absurd (let bad : true ≡ false = e in cc)), h.1)

pub no_caret : (l r more : List ℕ) → IsListing false l → l ++ r ≡ 94 ∷ more → ⊥
no_caret [] r more h e = absurd h
no_caret (c ∷ cs) r more h e = h.0 refl (heads c 94 (cs ++ r) more e).0

sets_one : (i j : Bool) (l m r q : List ℕ) → IsListing i l → IsListing j m → caret i ++ (l ++ 93 ∷ 125 ∷ r) ≡ caret j ++ (m ++ 93 ∷ 125 ∷ q) → (Among i l ≡ Among j m) × (r ≡ q)
sets_one true true l m r q h k e =
    let both = listing_one l m (125 ∷ r) (125 ∷ q) h k (heads 94 94 (l ++ 93 ∷ 125 ∷ r) (m ++ 93 ∷ 125 ∷ q) e).1 in
    (ap (Among true) both.0, (heads 125 125 r q both.1).1)
sets_one false false l m r q h k e =
    let both = listing_one l m (125 ∷ r) (125 ∷ q) (uninverted l h) (uninverted m k) e in
    (ap (Among false) both.0, (heads 125 125 r q both.1).1)
sets_one true false l m r q h k e = absurd (no_caret m (93 ∷ 125 ∷ q) (l ++ 93 ∷ 125 ∷ r) k (sym e))
sets_one false true l m r q h k e = absurd (no_caret l (93 ∷ 125 ∷ r) (m ++ 93 ∷ 125 ∷ q) h e)

names_one : (s z : Content) (n : Option ℕ) (name r q : List ℕ) → Name s n name r → Name z n name q → (s ≡ z) × (r ≡ q)
names_one s z n name r q (letter k is h g e) (letter j at x y f) =
    let both = heads k j (125 ∷ r) (125 ∷ q) (sym e ∙ f) in
    (is ∙ ap (λ x. by_letter x n) both.0 ∙ sym at, (heads 125 125 r q both.1).1)
names_one s z n name r q (letter k is h g e) (set i l at f x) = absurd (h (heads k 91 (125 ∷ r) (caret i ++ (l ++ 93 ∷ 125 ∷ q)) (sym e ∙ f)).0)
names_one s z n name r q (letter k is h g e) (slashes p at f x) = absurd (g (heads k 47 (125 ∷ r) (p ++ 47 ∷ 125 ∷ q) (sym e ∙ f)).0)
names_one s z n name r q (set i l at f x) (letter k is h g e) = absurd (h (heads k 91 (125 ∷ q) (caret i ++ (l ++ 93 ∷ 125 ∷ r)) (sym e ∙ f)).0)
names_one s z n name r q (set i l is e h) (set j m at f g) =
    let both = sets_one i j l m r q h g (heads 91 91 (caret i ++ (l ++ 93 ∷ 125 ∷ r)) (caret j ++ (m ++ 93 ∷ 125 ∷ q)) (sym e ∙ f)).1 in
    (is ∙ ap (λ (x : Run). Shaped (Characters x)) both.0 ∙ sym at, both.1)
names_one s z n name r q (set i l is e h) (slashes p at f g) = absurd (other_heads (heads 91 47 (caret i ++ (l ++ 93 ∷ 125 ∷ r)) (p ++ 47 ∷ 125 ∷ q) (sym e ∙ f)).0)
names_one s z n name r q (slashes p is e h) (letter k at x g f) = absurd (g (heads k 47 (125 ∷ q) (p ++ 47 ∷ 125 ∷ r) (sym f ∙ e)).0)
names_one s z n name r q (slashes p is e h) (set j m at f g) = absurd (other_heads (heads 91 47 (caret j ++ (m ++ 93 ∷ 125 ∷ q)) (p ++ 47 ∷ 125 ∷ r) (sym f ∙ e)).0)
names_one s z n name r q (slashes p is e h) (slashes o at f g) =
    let both = pattern_one p o (125 ∷ r) (125 ∷ q) h g (heads 47 47 (p ++ 47 ∷ 125 ∷ r) (o ++ 47 ∷ 125 ∷ q) (sym e ∙ f)).1 in
    (is ∙ ap Finds both.0 ∙ sym at, (heads 125 125 r q both.1).1)

-- digits and a name are no brace
no_brace_first : (s : Content) (n : Option ℕ) (text ds name rest more : List ℕ) → text ≡ ds ++ name → AllDigits 10 ds → Names s n name rest → text ≡ 125 ∷ more → ⊥
no_brace_first s n text [] name rest more e digits names at = let head = names_head s n name rest names in head.3.no_close (heads head.0 125 head.1 more (sym (e ∙ head.2) ∙ at)).0
no_brace_first s n text (d ∷ ds) name rest more e digits names at = let same : d ≡ 125 = (heads d 125 (ds ++ name) more (sym e ∙ at)).0 in high (subst (λ x. digit_value x < 10) same digits.0) where
  high : digit_value 125 < 10 → ⊥
  high h = omega arith

bodies_one : (s z : Content) (text r q : List ℕ) → SpellsBody s text r → SpellsBody z text q → (s ≡ z) × (r ≡ q)
bodies_one s z text r q (alone stop is e at) (alone stop' is' e' at') =
    let same : r ≡ q = (heads 125 125 r q (sym e ∙ e')).1 in
    (is ∙ ap (λ (x : Option ℕ). Shaped (Characters (Until x))) (at ∙ ap first same ∙ sym at') ∙ sym is', same)
bodies_one s z text r q (alone stop is e at) (named n) = absurd (no_brace_first z (limit_of n.ds) text n.ds n.name q r n.whole n.digits n.named e)
bodies_one s z text r q (named n) (alone stop is e at) = absurd (no_brace_first s (limit_of n.ds) text n.ds n.name r q n.whole n.digits n.named e)
bodies_one s z text r q (named n) (named m) =
    let same = longest_one (AllDigits 10) text n.ds m.ds n.name m.name (named_longest s (limit_of n.ds) text n.ds n.name r n.whole n.digits n.named) (named_longest z (limit_of m.ds) text m.ds m.name q m.whole m.digits m.named) in
    let other : Names z (limit_of n.ds) n.name q = subst (λ (ds : List ℕ). Names z (limit_of ds) n.name q) (sym same.0) (subst (λ (t : List ℕ). Names z (limit_of m.ds) t q) (sym same.1) m.named) in
    names_one s z (limit_of n.ds) n.name r q (name_of s (limit_of n.ds) n.name r n.named) (name_of z (limit_of n.ds) n.name q other)

pub fields_one : (a b : Bool) (s z : Content) (text r q : List ℕ) → SpellsField a s text r → SpellsField b z text q → (field_of a s ≡ field_of b z) × (s ≡ z) × (r ≡ q)
fields_one true true s z text r q (body, e, h) (other, f, k) =
    let both = bodies_one s z body r q h (subst (λ (t : List ℕ). SpellsBody z t q) (sym f ∙ e) k) in (ap (field_of true) both.0, both.0, both.1)
fields_one false false s z text r q (body, e, h) (other, f, k) =
    let same : other ≡ body = (heads 42 42 other body (sym f ∙ e)).1 in
    let both = bodies_one s z body r q h (subst (λ (t : List ℕ). SpellsBody z t q) same k) in (ap (field_of false) both.0, both.0, both.1)
fields_one true false s z text r q (body, e, h) (other, f, k) = absurd (body_no_star s body r other h (sym e ∙ f))
fields_one false true s z text r q (body, e, h) (other, f, k) = absurd (body_no_star z other q body k (sym f ∙ e))

-- a field, an expression, or the end, in front of a format
record IsField (d : Directive) (format rest : List ℕ) : Type 0 where
  stored : Bool
  shape : Content
  text : List ℕ
  is : d ≡ field_of stored shape
  opens : format ≡ 123 ∷ text
  spells : SpellsField stored shape text rest

-- a directive is a character or a field
data Spelt (d : Directive) (format rest : List ℕ) : Type 0 where
  plain : (c : ℕ) → d ≡ Exactly c → Spells (Exactly c) format rest → Spelt d format rest
  field : IsField d format rest → Spelt d format rest

spelt : (d : Directive) (format rest : List ℕ) → Spells d format rest → Spelt d format rest
spelt (Exactly c) format rest h = plain c refl h
spelt (Field stored s) format rest (body, e, h) = field (record { stored = stored; shape = Shaped s; text = star stored ++ body; is = refl; opens = e; spells = (body, refl, shape_body s body rest h) })
spelt (Expression stored pattern) format rest (body, e, any, digits, delimited, some) = field (record { stored = stored; shape = Finds pattern; text = star stored ++ body; is = refl; opens = e; spells = (body, refl, expression_body pattern body rest (any, digits, delimited, some)) })
spelt AtEnd format rest (body, starred, any, e, h) = field (record { stored = starred; shape = Ends; text = star starred ++ body; is = refl; opens = e; spells = (body, refl, end_body body rest any h) })

braces : ◌≡◌ {A = ℕ} 123 125 → ⊥
braces e = omega arith

field_not_open : (stored : Bool) (s : Content) (text rest more : List ℕ) → SpellsField stored s text rest → text ≡ 123 ∷ more → ⊥
field_not_open true s text rest more (body, e, h) at = body_no_open s body rest more h (sym e ∙ at)
field_not_open false s text rest more (body, e, h) at = two (heads 42 123 body more (sym e ∙ at)).0 where
  two : ◌≡◌ {A = ℕ} 42 123 → ⊥
  two e = omega arith

literal_field : (c : ℕ) (d : Directive) (format r q : List ℕ) → Spells (Exactly c) format r → IsField d format q → ⊥
literal_field c d format r q (inl a) f = a.1 (heads c 123 r f.text (sym a.0 ∙ f.opens)).0
literal_field c d format r q (inr (inl a)) f = field_not_open f.stored f.shape f.text q r f.spells (sym (heads 123 123 (123 ∷ r) f.text (sym a.0 ∙ f.opens)).1)
literal_field c d format r q (inr (inr a)) f = braces (sym (heads 125 123 (c ∷ r) f.text (sym a ∙ f.opens)).0)

literals_one : (c x : ℕ) (format r q : List ℕ) → Spells (Exactly c) format r → Spells (Exactly x) format q → (c ≡ x) × (r ≡ q)
literals_one c x format r q (inl a) (inl b) = heads c x r q (sym a.0 ∙ b.0)
literals_one c x format r q (inl a) (inr (inl b)) = absurd (a.1 (heads c 123 r (123 ∷ q) (sym a.0 ∙ b.0)).0)
literals_one c x format r q (inl a) (inr (inr b)) = absurd (a.2 (heads c 125 r (x ∷ q) (sym a.0 ∙ b)).0)
literals_one c x format r q (inr (inl a)) (inl b) = absurd (b.1 (heads x 123 q (123 ∷ r) (sym b.0 ∙ a.0)).0)
literals_one c x format r q (inr (inl a)) (inr (inl b)) = (a.1 ∙ sym b.1, (heads 123 123 r q (heads 123 123 (123 ∷ r) (123 ∷ q) (sym a.0 ∙ b.0)).1).1)
literals_one c x format r q (inr (inl a)) (inr (inr b)) = absurd (braces (heads 123 125 (123 ∷ r) (x ∷ q) (sym a.0 ∙ b)).0)
literals_one c x format r q (inr (inr a)) (inl b) = absurd (b.2 (heads x 125 q (c ∷ r) (sym b.0 ∙ a)).0)
literals_one c x format r q (inr (inr a)) (inr (inl b)) = absurd (braces (heads 123 125 (123 ∷ q) (c ∷ r) (sym b.0 ∙ a)).0)
literals_one c x format r q (inr (inr a)) (inr (inr b)) = heads c x r q (heads 125 125 (c ∷ r) (x ∷ q) (sym a ∙ b)).1

-- the front of a format spells one directive
pub spells_one : (d e : Directive) (format r q : List ℕ) → Spells d format r → Spells e format q → (d ≡ e) × (r ≡ q)
spells_one d e format r q h k = by_form (spelt d format r h) (spelt e format q k) where
  by_form : Spelt d format r → Spelt e format q → (d ≡ e) × (r ≡ q)
  by_form (plain c is a) (plain x at b) = let both = literals_one c x format r q a b in (is ∙ ap Exactly both.0 ∙ sym at, both.1)
  by_form (plain c is a) (field f) = absurd (literal_field c e format r q a f)
  by_form (field f) (plain x at b) = absurd (literal_field x d format q r b f)
  by_form (field f) (field g) =
      let same : g.text ≡ f.text = (heads 123 123 g.text f.text (sym g.opens ∙ f.opens)).1 in
      let both = fields_one f.stored g.stored f.shape g.shape f.text r q f.spells (subst (λ (t : List ℕ). SpellsField g.stored g.shape t q) same g.spells) in
      (f.is ∙ both.0 ∙ sym g.is, both.2)

cuts_one : (ds es : List Directive) (format : List ℕ) → Cuts format ds → Cuts format es → ds ≡ es
cuts_one [] [] format a b = refl
cuts_one [] (e ∷ es) format a b = absurd (a e b.0 b.1)
cuts_one (d ∷ ds) [] format a b = absurd (b d a.0 a.1)
cuts_one (d ∷ ds) (e ∷ es) format a b =
    let one = spells_one d e (after_blanks format) a.0 b.0 a.1 b.1 in
    let head : d ≡ e = one.0 in
    let tail : ds ≡ es = cuts_one ds es b.0 (subst (λ (f : List ℕ). Cuts f ds) one.1 a.2) b.2 in
    cc

-- a directive passes the input in one way
passes_one : (d : Directive) (input r q : List ℕ) (t u : Option Token) → Passes d input t r → Passes d input u q → (t ≡ u) × (r ≡ q)
passes_one (Exactly c) input r q t u a b = (a.1 ∙ sym b.1, (heads c c r q (sym a.0 ∙ b.0)).1)
passes_one (Field stored s) input r q t u (a, h, i) (b, k, j) =
    let both = longest_one (MayTake s) input a b r q h k in
    let tokens : then_some stored (record { text = token_text s a; behind = r }) ≡ then_some stored (record { text = token_text s b; behind = q }) =
    ap (λ (x : List ℕ). then_some stored (record { text = token_text s x; behind = r })) both.0 ∙ ap (λ (x : List ℕ). then_some stored (record { text = token_text s b; behind = x })) both.1 in
    (i ∙ tokens ∙ sym j, both.1)
passes_one (Expression stored pattern) input r q t u a b = (a.0 ∙ sym b.0, a.1 ∙ sym b.1)
passes_one AtEnd input r q t u a b = absurd a

takes_one : (ds : List Directive) (input : List ℕ) (o p : Outcome) → Takes ds input o → Takes ds input p → o ≡ p
takes_one [] input o p a b = a ∙ sym b
takes_one (d ∷ ds) input o p (ended e a) (ended f b) = a ∙ sym b
takes_one (d ∷ ds) input o p (ended e a) (refused n r b) = absurd (n e)
takes_one (d ∷ ds) input o p (ended e a) (passed n t r m pass go b) = absurd (n e)
takes_one (d ∷ ds) input o p (refused n r a) (ended f b) = absurd (n f)
takes_one (d ∷ ds) input o p (refused n h a) (refused k g b) = a ∙ sym b
takes_one (d ∷ ds) input o p (refused n h a) (passed k t r m pass go b) = absurd (h t r pass)
takes_one (d ∷ ds) input o p (passed n t r m pass go a) (ended f b) = absurd (n f)
takes_one (d ∷ ds) input o p (passed n t r m pass go a) (refused k h b) = absurd (h t r pass)
takes_one (d ∷ ds) input o p (passed n t r m pass go a) (passed k t' r' m' pass' go' b) =
    let both = passes_one d (after_blanks input) r r' t t' pass pass' in
    let more : m ≡ m' = takes_one ds r' m m' (subst (λ (q : List ℕ). Takes ds q m) both.1 go) go' in
    a ∙ ap (with_token t) more ∙ ap (λ (x : Option Token). with_token x m') both.0 ∙ sym b

pub one_answer : (input format : List ℕ) (x y : List Token) → Scanned input format x → Scanned input format y → x ≡ y
one_answer input format x y a b =
    let same : a.directives ≡ b.directives = cuts_one a.directives b.directives format a.cut b.cut in
    let out : a.out ≡ b.out = takes_one b.directives input a.out b.out (subst (λ (ds : List Directive). Takes ds input a.out) same a.takes) b.takes in
    a.tokens_are ∙ ap tokens_of out ∙ sym b.tokens_are
