-- What the front of a format spells: listings, names, bodies, fields; and what shows that nothing does.
use Rattle.std.proofs.Common.{◌≡◌, ◌≢◌, ◌<◌, ◌≤◌, ℕ, Bool, true, false, List, [], ◌∷◌, ◌++◌, Option, Some, IsSome, sym, ap, subst, refl, inl, inr, ◌∙◌, arith}
use Rattle.std.specs.List.{AllByRecursion}
use Rattle.std.specs.Char.{digit_value}
use Rattle.std.specs.Str.Parse.{AllDigits}
use Rattle.scan_fmt.specs.Sets.{IsListing}
use Rattle.scan_fmt.specs.Grammar.{Until, Solid, Among, Decimal, Hexadecimal, Float, Shape, Characters, Number, Exactly, Field, Expression, AtEnd, first, star, limit_of, Limits, SpellsShape, Spells}
use Rattle.scan_fmt.specs.Expressions.{IsDelimited, expression}
use Rattle.scan_fmt.specs.Inner.Fields.{Content, Shaped, Finds, Ends, caret, letter, NoDirective, IsReadable, Names, SpellsBody, alone, named, field_of, SpellsField}
use Rattle.scan_fmt.specs.Scanned.{IsLongest}
use Rattle.scan_fmt.proofs.Longest.{longest_stops, longest_one}
use Rattle.scan_fmt.proofs.Digits.{all_digits_more}

pub heads : (x y : ℕ) (r q : List ℕ) → x ∷ r ≡ y ∷ q → (x ≡ y) × (r ≡ q)
heads x y r q e = ((let h : x ≡ y = cc in h), (let h : r ≡ q = cc in h))

-- up to a closing bracket
stop_one : (a b r s : List ℕ) → AllByRecursion (λ d. d ≢ 93) a → AllByRecursion (λ d. d ≢ 93) b → a ++ 93 ∷ r ≡ b ++ 93 ∷ s → (a ≡ b) × (r ≡ s)
stop_one [] [] r s h k e = (refl, (heads 93 93 r s e).1)
stop_one [] (y ∷ b) r s h k e = absurd (k.0 (sym (heads 93 y r (b ++ 93 ∷ s) e).0))
stop_one (x ∷ a) [] r s h k e = absurd (h.0 (heads x 93 (a ++ 93 ∷ r) s e).0)
stop_one (x ∷ a) (y ∷ b) r s h k e =
    let both = heads x y (a ++ 93 ∷ r) (b ++ 93 ∷ s) e in
    let rest = stop_one a b r s h.1 k.1 both.1 in
    ((let one : x ≡ y = both.0 in let two : a ≡ b = rest.0 in cc), rest.1)

pub listing_one : (a b r s : List ℕ) → IsListing true a → IsListing true b → a ++ 93 ∷ r ≡ b ++ 93 ∷ s → (a ≡ b) × (r ≡ s)
listing_one [] b r s h k e = absurd h
listing_one (x ∷ a) [] r s h k e = absurd k
listing_one (x ∷ a) (y ∷ b) r s h k e =
    let both = heads x y (a ++ 93 ∷ r) (b ++ 93 ∷ s) e in
    let rest = stop_one a b r s h.1 k.1 both.1 in
    ((let one : x ≡ y = both.0 in let two : a ≡ b = rest.0 in cc), rest.1)

-- no closed listing, where no brace follows the bracket
pub closed_none : (text l r : List ℕ) → text ≡ l ++ 93 ∷ r → IsListing true l → ((rest : List ℕ) → r ≢ 125 ∷ rest) → (listing rest : List ℕ) → text ≡ listing ++ 93 ∷ 125 ∷ rest → IsListing true listing → ⊥
closed_none text l r whole has none listing rest e is = none rest (listing_one l listing r (125 ∷ rest) has is (sym whole ∙ e)).1

-- a character that may begin the name of a field
pub record IsNameHead (c : ℕ) : Type 0 where
  pub no_digit : 10 ≤ digit_value c
  pub no_star : c ≢ 42
  pub no_open : c ≢ 123
  pub no_close : c ≢ 125

pub names_head : (s : Content) (n : Option ℕ) (name rest : List ℕ) → Names s n name rest → (c : ℕ) × (more : List ℕ) × (name ≡ c ∷ more) × IsNameHead c
names_head (Shaped (Characters (Until stop))) n name rest h = absurd h
names_head (Shaped (Characters Solid)) n name rest h = (115, 125 ∷ rest, h, record { no_digit = omega arith; no_star = λ e. omega arith; no_open = λ e. omega arith; no_close = λ e. omega arith })
names_head (Shaped (Characters (Among inverted listing))) n name rest h = (91, caret inverted ++ (listing ++ 93 ∷ 125 ∷ rest), h.0, record { no_digit = omega arith; no_star = λ e. omega arith; no_open = λ e. omega arith; no_close = λ e. omega arith })
names_head (Shaped (Number Decimal own)) n name rest h = (100, 125 ∷ rest, h.0, record { no_digit = omega arith; no_star = λ e. omega arith; no_open = λ e. omega arith; no_close = λ e. omega arith })
names_head (Shaped (Number Hexadecimal own)) n name rest h = (120, 125 ∷ rest, h.0, record { no_digit = omega arith; no_star = λ e. omega arith; no_open = λ e. omega arith; no_close = λ e. omega arith })
names_head (Shaped (Number Float own)) n name rest h = (102, 125 ∷ rest, h.0, record { no_digit = omega arith; no_star = λ e. omega arith; no_open = λ e. omega arith; no_close = λ e. omega arith })
names_head (Finds pattern) n name rest h = (47, pattern ++ 47 ∷ 125 ∷ rest, h.0, record { no_digit = omega arith; no_star = λ e. omega arith; no_open = λ e. omega arith; no_close = λ e. omega arith })
names_head Ends n name rest h = (101, 125 ∷ rest, h, record { no_digit = omega arith; no_star = λ e. omega arith; no_open = λ e. omega arith; no_close = λ e. omega arith })

-- the digits of a named body are the longest
pub named_longest : (s : Content) (n : Option ℕ) (text ds name rest : List ℕ) → text ≡ ds ++ name → AllDigits 10 ds → Names s n name rest → IsLongest (AllDigits 10) text ds name
named_longest s n text ds name rest whole digits names =
    let head = names_head s n name rest names in
    longest_stops (AllDigits 10) text ds name whole digits
    (λ c more at can. let same : head.0 ≡ c = (let k : Some head.0 ≡ Some c = sym (ap first head.2) ∙ at in cc) in
    omega (arith, all_digits_more 10 c ds more can, subst (λ x. 10 ≤ digit_value x) same head.3.no_digit))

-- what a body begins with
body_head : (s : Content) (text rest : List ℕ) → SpellsBody s text rest → (c : ℕ) × (more : List ℕ) × (text ≡ c ∷ more) × (c ≢ 42) × (c ≢ 123)
body_head s text rest (alone stop is e at) = (125, rest, e, (λ k. omega arith), (λ k. omega arith))
body_head s text rest (named n) = by_digits n.ds n.name n.whole n.digits (names_head s (limit_of n.ds) n.name rest n.named) where
  no_digit_of : (d c : ℕ) → digit_value d < 10 → 10 ≤ digit_value c → d ≢ c
  no_digit_of d c low high e = omega (arith, low, subst (λ x. 10 ≤ digit_value x) (sym e) high)

  by_digits : (ds name : List ℕ) → text ≡ ds ++ name → AllDigits 10 ds → (c : ℕ) × (more : List ℕ) × (name ≡ c ∷ more) × IsNameHead c → (c : ℕ) × (more : List ℕ) × (text ≡ c ∷ more) × (c ≢ 42) × (c ≢ 123)
  by_digits [] name e digits head = (head.0, head.1, e ∙ head.2, head.3.no_star, head.3.no_open)
  by_digits (d ∷ ds) name e digits head = (d, ds ++ name, e, no_digit_of d 42 digits.0 (omega arith), no_digit_of d 123 digits.0 (omega arith))

pub body_no_star : (s : Content) (text rest more : List ℕ) → SpellsBody s text rest → text ≡ 42 ∷ more → ⊥
body_no_star s text rest more h e = let head = body_head s text rest h in head.3 (heads head.0 42 head.1 more (sym head.2 ∙ e)).0

pub body_no_open : (s : Content) (text rest more : List ℕ) → SpellsBody s text rest → text ≡ 123 ∷ more → ⊥
body_no_open s text rest more h e = let head = body_head s text rest h in head.4 (heads head.0 123 head.1 more (sym head.2 ∙ e)).0

-- no body, where no brace stands in front and no name after the digits
pub body_none : (text ds name : List ℕ) (limit : Option ℕ) → IsLongest (AllDigits 10) text ds name → limit ≡ limit_of ds → ((rest : List ℕ) → text ≢ 125 ∷ rest)
    → ((s : Content) (rest : List ℕ) → Names s limit name rest → ⊥) → (s : Content) (rest : List ℕ) → SpellsBody s text rest → ⊥
body_none text ds name limit long is brace none s rest (alone stop at e k) = brace rest e
body_none text ds name limit long is brace none s rest (named n) =
    let same = longest_one (AllDigits 10) text n.ds ds n.name name (named_longest s (limit_of n.ds) text n.ds n.name rest n.whole n.digits n.named) long in
    let limits : limit_of n.ds ≡ limit = ap limit_of same.0 ∙ sym is in
    none s rest (subst (λ (x : List ℕ). Names s limit x rest) same.1 (subst (λ (l : Option ℕ). Names s l n.name rest) limits n.named))

-- a body, where a name stands after the longest digits
pub body_named : (s : Content) (text ds name rest : List ℕ) (limit : Option ℕ) → IsLongest (AllDigits 10) text ds name → limit ≡ limit_of ds → Names s limit name rest → SpellsBody s text rest
body_named s text ds name rest limit long is names = named (record { ds = ds; name = name; whole = long.whole; digits = long.shape; named = subst (λ (l : Option ℕ). Names s l name rest) is names })

-- what a body spells, as the format's grammar says it
named_spells : (s : Shape) (text ds name rest : List ℕ) → text ≡ ds ++ name → AllDigits 10 ds → Names (Shaped s) (limit_of ds) name rest → SpellsShape s text rest
named_spells (Characters (Until stop)) text ds name rest e digits h = absurd h
named_spells (Characters Solid) text ds name rest e digits h = (limit_of ds, (ds, e ∙ ap (λ (t : List ℕ). ds ++ t) h, digits, refl))
named_spells (Characters (Among inverted listing)) text ds name rest e digits h = (limit_of ds, (ds, e ∙ ap (λ (t : List ℕ). ds ++ t) h.0, digits, refl), h.1)
named_spells (Number Decimal own) text ds name rest e digits h = (ds, e ∙ ap (λ (t : List ℕ). ds ++ t) h.0, digits, h.1)
named_spells (Number Hexadecimal own) text ds name rest e digits h = (ds, e ∙ ap (λ (t : List ℕ). ds ++ t) h.0, digits, h.1)
named_spells (Number Float own) text ds name rest e digits h = (ds, e ∙ ap (λ (t : List ℕ). ds ++ t) h.0, digits, h.1)

body_spells : (s : Shape) (text rest : List ℕ) → SpellsBody (Shaped s) text rest → SpellsShape s text rest
body_spells s text rest (alone stop is e at) = let same : s ≡ Characters (Until stop) = cc in subst (λ (z : Shape). SpellsShape z text rest) (sym same) (e, at)
body_spells s text rest (named n) = named_spells s text n.ds n.name rest n.whole n.digits n.named

end_spells : (text rest : List ℕ) → SpellsBody Ends text rest → (any : Option ℕ) × Limits any (101 ∷ 125 ∷ rest) text
end_spells text rest (alone stop is e at) = absurd (cc)
end_spells text rest (named n) = (limit_of n.ds, (n.ds, n.whole ∙ ap (λ (t : List ℕ). n.ds ++ t) n.named, n.digits, refl))

pub shape_body : (s : Shape) (text rest : List ℕ) → SpellsShape s text rest → SpellsBody (Shaped s) text rest
shape_body (Characters (Until stop)) text rest h = alone stop refl h.0 h.1
shape_body (Characters Solid) text rest (any, (ds, e, digits, is)) = named (record { ds = ds; name = 115 ∷ 125 ∷ rest; whole = e; digits = digits; named = refl })
shape_body (Characters (Among inverted listing)) text rest (any, (ds, e, digits, is), listed) = named (record { ds = ds; name = 91 ∷ (caret inverted ++ (listing ++ 93 ∷ 125 ∷ rest)); whole = e; digits = digits; named = (refl, listed) })
shape_body (Number Decimal own) text rest (ds, e, digits, is) = named (record { ds = ds; name = letter Decimal ∷ 125 ∷ rest; whole = e; digits = digits; named = (refl, is) })
shape_body (Number Hexadecimal own) text rest (ds, e, digits, is) = named (record { ds = ds; name = letter Hexadecimal ∷ 125 ∷ rest; whole = e; digits = digits; named = (refl, is) })
shape_body (Number Float own) text rest (ds, e, digits, is) = named (record { ds = ds; name = letter Float ∷ 125 ∷ rest; whole = e; digits = digits; named = (refl, is) })

pub end_body : (text rest : List ℕ) (any : Option ℕ) → Limits any (101 ∷ 125 ∷ rest) text → SpellsBody Ends text rest
end_body text rest any (ds, e, digits, is) = named (record { ds = ds; name = 101 ∷ 125 ∷ rest; whole = e; digits = digits; named = refl })

-- what stands in an expression's braces after its star
abbrev pub SpellsExpression : List ℕ → List ℕ → List ℕ → Type 0
SpellsExpression pattern text rest = (any : Option ℕ) × Limits any (47 ∷ (pattern ++ 47 ∷ 125 ∷ rest)) text × IsDelimited pattern × IsSome (expression pattern)

expression_spells : (pattern text rest : List ℕ) → SpellsBody (Finds pattern) text rest → IsSome (expression pattern) → SpellsExpression pattern text rest
expression_spells pattern text rest (alone stop is e at) some = absurd (cc)
expression_spells pattern text rest (named n) some = (limit_of n.ds, (n.ds, n.whole ∙ ap (λ (t : List ℕ). n.ds ++ t) n.named.0, n.digits, refl), n.named.1, some)

pub expression_body : (pattern text rest : List ℕ) → SpellsExpression pattern text rest → SpellsBody (Finds pattern) text rest
expression_body pattern text rest (any, (ds, e, digits, is), delimited, some) = named (record { ds = ds; name = 47 ∷ (pattern ++ 47 ∷ 125 ∷ rest); whole = e; digits = digits; named = (refl, delimited) })

pub field_spells : (stored : Bool) (s : Content) (text rest : List ℕ) → SpellsField stored s text rest → IsReadable s → Spells (field_of stored s) (123 ∷ text) rest
field_spells stored (Shaped s) text rest (body, e, h) readable = (body, ap (λ (t : List ℕ). 123 ∷ t) e, body_spells s body rest h)
field_spells stored (Finds pattern) text rest (body, e, h) readable = let found = expression_spells pattern body rest h readable in (body, ap (λ (t : List ℕ). 123 ∷ t) e, found.0, found.1, found.2, found.3)
field_spells stored Ends text rest (body, e, h) readable = let ends = end_spells body rest h in (body, stored, ends.0, ap (λ (t : List ℕ). 123 ∷ t) e, ends.1)

-- no field, by the star in front and what follows it
pub field_none_star : (text more : List ℕ) → text ≡ 42 ∷ more → ((s : Content) (rest : List ℕ) → SpellsBody s more rest → ⊥) → (stored : Bool) (s : Content) (rest : List ℕ) → SpellsField stored s text rest → ⊥
field_none_star text more e none true s rest (body, is, h) = body_no_star s body rest more h (sym is ∙ e)
field_none_star text more e none false s rest (body, is, h) =
    let same : body ≡ more = (heads 42 42 body more (sym is ∙ e)).1 in
    none s rest (subst (λ (t : List ℕ). SpellsBody s t rest) same h)

pub field_none_plain : (text : List ℕ) → ((rest : List ℕ) → text ≢ 42 ∷ rest) → ((s : Content) (rest : List ℕ) → SpellsBody s text rest → ⊥) → (stored : Bool) (s : Content) (rest : List ℕ) → SpellsField stored s text rest → ⊥
field_none_plain text plain none true s rest (body, e, h) = none s rest (subst (λ (t : List ℕ). SpellsBody s t rest) (sym e) h)
field_none_plain text plain none false s rest (body, e, h) = plain body e

no_brace : ◌≡◌ {A = ℕ} 123 125 → ⊥
no_brace e = omega arith

pub directive_none : (format text : List ℕ) → format ≡ 123 ∷ text → ((rest : List ℕ) → text ≢ 123 ∷ rest) → ((stored : Bool) (s : Content) (rest : List ℕ) → SpellsField stored s text rest → IsReadable s → ⊥) → NoDirective format
directive_none format text e opens none (Exactly c) rest (inl h) = h.1 (sym (heads 123 c text rest (sym e ∙ h.0)).0)
directive_none format text e opens none (Exactly c) rest (inr (inl h)) = opens rest (heads 123 123 text (123 ∷ rest) (sym e ∙ h.0)).1
directive_none format text e opens none (Exactly c) rest (inr (inr h)) = no_brace (heads 123 125 text (c ∷ rest) (sym e ∙ h)).0
directive_none format text e opens none (Field stored s) rest (body, is, h) = none stored (Shaped s) rest (body, (heads 123 123 text (star stored ++ body) (sym e ∙ is)).1, shape_body s body rest h) tt
directive_none format text e opens none (Expression stored pattern) rest (body, is, any, digits, delimited, some) = none stored (Finds pattern) rest (body, (heads 123 123 text (star stored ++ body) (sym e ∙ is)).1, expression_body pattern body rest (any, digits, delimited, some)) some
directive_none format text e opens none AtEnd rest (body, starred, any, is, h) = none starred Ends rest (body, (heads 123 123 text (star starred ++ body) (sym e ∙ is)).1, end_body body rest any h) tt
