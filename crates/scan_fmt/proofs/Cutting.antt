-- Each format is cut into directives: what stands in front of it can be decided, and each directive shortens it.
use Rattle.std.proofs.Common.{◌≡◌, ◌≢◌, ◌⊎◌, ◌<◌, ◌≤◌, ℕ, zero, suc, Bool, true, false, List, [], ◌∷◌, ◌++◌, length, Option, Some, None, IsSome, sym, ap, subst, refl, inl, inr, ◌∙◌, arith, length-append}
use Rattle.std.specs.List.{AllByRecursion}
use Rattle.std.specs.Char.{digit_value}
use Rattle.std.specs.Str.Parse.{AllDigits}
use Rattle.std.proofs.lemmas.Bool.{cases_eq, cases_lt, cases_Bool}
use Rattle.scan_fmt.specs.Sets.{IsListing}
use Rattle.scan_fmt.specs.Grammar.{Until, Solid, Among, Decimal, Hexadecimal, Float, Characters, Number, Directive, Exactly, Field, Expression, AtEnd, first, star, limit_of, Spells, Cuts, is_blank, after_blanks}
use Rattle.scan_fmt.specs.Expressions.{expression}
use Rattle.scan_fmt.specs.Inner.Fields.{Content, Shaped, Finds, Ends, caret, NoDirective, IsReadable, Names, SpellsBody, alone, named, field_of, SpellsField}
use Rattle.scan_fmt.specs.Scanned.{IsLongest}
use Rattle.scan_fmt.proofs.Longest.{longest_stops, longest_cons}
use Rattle.scan_fmt.proofs.Characters.{listing_none}
use Rattle.scan_fmt.proofs.Spelled.{heads, closed_none, body_none, body_named, shape_body, expression_body, end_body, field_spells, field_none_star, field_none_plain, directive_none}
use Rattle.scan_fmt.proofs.Patterns.{slashed}
use Rattle.scan_fmt.proofs.OneAnswer.{Name, letter, set, slashes, name_of, no_caret, uninverted, slash_none, slash_open, fields_one}

-- a character in front, or not
Stands : ℕ → List ℕ → Type 0
Stands c text = ((rest : List ℕ) × (text ≡ c ∷ rest)) ⊎ ((rest : List ℕ) → text ≢ c ∷ rest)

stands : (c : ℕ) (text : List ℕ) → Stands c text
unfolding Stands
stands c [] = inr (λ rest e. cc)
stands c (x ∷ xs) = elim (cases_eq x c) [ inl e ↦ inl (xs, ap (λ y. y ∷ xs) e) | inr n ↦ inr (λ rest e. n (heads x c xs rest e).0) ]

-- up to the first closing bracket
bracket : (text : List ℕ) → ((l : List ℕ) × (r : List ℕ) × (text ≡ l ++ 93 ∷ r) × AllByRecursion (λ d. d ≢ 93) l) ⊎ AllByRecursion (λ d. d ≢ 93) text
bracket [] = inr tt
bracket (x ∷ xs) = elim (cases_eq x 93) [
  | inl e ↦ inl ([], xs, ap (λ y. y ∷ xs) e, tt)
  | inr n ↦ elim (bracket xs) [ inl (l, r, e, each) ↦ inl (x ∷ l, r, ap (λ (t : List ℕ). x ∷ t) e, (n, each)) | inr each ↦ inr (n, each) ]
]

-- a listing with its bracket and brace, or none
Closed : List ℕ → Type 0
Closed text = ((l : List ℕ) × (r : List ℕ) × (text ≡ l ++ 93 ∷ 125 ∷ r) × IsListing true l) ⊎ ((l r : List ℕ) → text ≡ l ++ 93 ∷ 125 ∷ r → IsListing true l → ⊥)

closed_at : (text l r : List ℕ) → text ≡ l ++ 93 ∷ r → IsListing true l → Closed text
unfolding Closed Stands
closed_at text l r e is = elim (stands 125 r) [
  | inl (q, f) ↦ inl (l, q, e ∙ ap (λ (t : List ℕ). l ++ 93 ∷ t) f, is)
  | inr none ↦ inr (closed_none text l r e is none)
]

closed : (text : List ℕ) → Closed text
unfolding Closed
closed [] = inr (λ l r e is. nothing l r e is) where
  nothing : (l r : List ℕ) → [] ≡ l ++ 93 ∷ 125 ∷ r → IsListing true l → ⊥
  nothing [] r e is = is
  nothing (x ∷ l) r e is = absurd (omega (arith, ap length e))
closed (c ∷ cs) = elim (bracket cs) [
  | inl (l, r, e, each) ↦ closed_at (c ∷ cs) (c ∷ l) r (ap (λ (t : List ℕ). c ∷ t) e) ((λ f. absurd (let bad : true ≡ false = f in cc)), each)
  | inr each ↦ inr (λ l r e is. listing_none (c ∷ cs) l (125 ∷ r) ((λ f. absurd (let bad : true ≡ false = f in cc)), each) e is)
]

-- a name in front, or none
Named : Option ℕ → List ℕ → Type 0
Named n name = ((s : Content) × (rest : List ℕ) × Names s n name rest) ⊎ ((s : Content) (rest : List ℕ) → Names s n name rest → ⊥)

bracket_slash : ◌≡◌ {A = ℕ} 91 47 → ⊥
bracket_slash e = omega arith

-- of a set, after its bracket
set_caret : (n : Option ℕ) (text : List ℕ) → Closed text → Named n (91 ∷ 94 ∷ text)
unfolding Closed Named
set_caret n text (inl (l, r, e, is)) = inl (Shaped (Characters (Among true l)), r, (ap (λ (t : List ℕ). 91 ∷ 94 ∷ t) e, is))
set_caret n text (inr none) = inr (λ s rest h. refute s rest (name_of s n (91 ∷ 94 ∷ text) rest h)) where
  refute : (s : Content) (rest : List ℕ) → Name s n (91 ∷ 94 ∷ text) rest → ⊥
  refute s rest (letter k is h g e) = h (sym (heads 91 k (94 ∷ text) (125 ∷ rest) e).0)
  refute s rest (slashes p is e h) = bracket_slash (heads 91 47 (94 ∷ text) (p ++ 47 ∷ 125 ∷ rest) e).0
  refute s rest (set true l is e h) = none l rest (heads 94 94 text (l ++ 93 ∷ 125 ∷ rest) (heads 91 91 (94 ∷ text) (94 ∷ (l ++ 93 ∷ 125 ∷ rest)) e).1).1 h
  refute s rest (set false l is e h) = no_caret l (93 ∷ 125 ∷ rest) text h (sym (heads 91 91 (94 ∷ text) (l ++ 93 ∷ 125 ∷ rest) e).1)

set_plain : (n : Option ℕ) (text : List ℕ) → ((rest : List ℕ) → text ≢ 94 ∷ rest) → Closed text → Named n (91 ∷ text)
unfolding Closed Named
set_plain n text plain (inl (l, r, e, is)) = inl (Shaped (Characters (Among false l)), r, (ap (λ (t : List ℕ). 91 ∷ t) e, plainly l e is)) where
  plainly : (l : List ℕ) → text ≡ l ++ 93 ∷ 125 ∷ r → IsListing true l → IsListing false l
  plainly [] e is = is
  plainly (c ∷ cs) e is = ((λ h at. plain (cs ++ 93 ∷ 125 ∷ r) (e ∙ ap (λ x. x ∷ (cs ++ 93 ∷ 125 ∷ r)) at)), is.1)
set_plain n text plain (inr none) = inr (λ s rest h. refute s rest (name_of s n (91 ∷ text) rest h)) where
  refute : (s : Content) (rest : List ℕ) → Name s n (91 ∷ text) rest → ⊥
  refute s rest (letter k is h g e) = h (sym (heads 91 k text (125 ∷ rest) e).0)
  refute s rest (slashes p is e h) = bracket_slash (heads 91 47 text (p ++ 47 ∷ 125 ∷ rest) e).0
  refute s rest (set true l is e h) = plain (l ++ 93 ∷ 125 ∷ rest) (heads 91 91 text (94 ∷ (l ++ 93 ∷ 125 ∷ rest)) e).1
  refute s rest (set false l is e h) = none l rest (heads 91 91 text (l ++ 93 ∷ 125 ∷ rest) e).1 (uninverted l h)

set_name : (n : Option ℕ) (text : List ℕ) → Named n (91 ∷ text)
unfolding Stands
set_name n text = elim (stands 94 text) [
  | inl (rest, e) ↦ subst (λ (t : List ℕ). Named n (91 ∷ t)) (sym e) (set_caret n rest (closed rest))
  | inr plain ↦ set_plain n text plain (closed text)
]

-- of an expression
slash_name : (n : Option ℕ) (text : List ℕ) → Named n (47 ∷ text)
unfolding Named Stands
slash_name n text = elim (slashed text) [
  | inr none ↦ inr (λ s rest h. slash_none text (λ p r. none p (125 ∷ r)) s n rest h)
  | inl (p, r, e, is) ↦ elim (stands 125 r) [
    | inl (q, f) ↦ inl (Finds p, q, (ap (λ (t : List ℕ). 47 ∷ t) (e ∙ ap (λ (t : List ℕ). p ++ 47 ∷ t) f), is))
    | inr none ↦ inr (λ s rest h. slash_open text p r e is none s n rest h)
  ]
]

-- of a letter
Lettered : ℕ → Option ℕ → Type 0
Lettered k n = ((s : Content) × ((rest : List ℕ) → Names s n (k ∷ 125 ∷ rest) rest)) ⊎ ((s : Content) (rest : List ℕ) → Names s n (k ∷ 125 ∷ rest) rest → ⊥)

lettered : (k : ℕ) (n : Option ℕ) → k ≢ 91 → k ≢ 47 → Lettered k n
unfolding Lettered
lettered k n no_set no_slash = elim (cases_eq k 115) [
  | inl e ↦ inl (Shaped (Characters Solid), λ rest. ap (λ x. x ∷ 125 ∷ rest) e)
  | inr a ↦ elim (cases_eq k 100) [
    | inl e ↦ inl (Shaped (Number Decimal n), λ rest. (ap (λ x. x ∷ 125 ∷ rest) e, refl))
    | inr b ↦ elim (cases_eq k 120) [
      | inl e ↦ inl (Shaped (Number Hexadecimal n), λ rest. (ap (λ x. x ∷ 125 ∷ rest) e, refl))
      | inr d ↦ elim (cases_eq k 102) [
        | inl e ↦ inl (Shaped (Number Float n), λ rest. (ap (λ x. x ∷ 125 ∷ rest) e, refl))
        | inr f ↦ elim (cases_eq k 101) [
          | inl e ↦ inl (Ends, λ rest. ap (λ x. x ∷ 125 ∷ rest) e)
          | inr g ↦ inr (refute a b d f g)
        ]
      ]
    ]
  ]
] where
  refute : k ≢ 115 → k ≢ 100 → k ≢ 120 → k ≢ 102 → k ≢ 101 → (s : Content) (rest : List ℕ) → Names s n (k ∷ 125 ∷ rest) rest → ⊥
  refute a b d f g (Shaped (Characters (Until stop))) rest h = h
  refute a b d f g (Shaped (Characters Solid)) rest h = a (heads k 115 (125 ∷ rest) (125 ∷ rest) h).0
  refute a b d f g (Shaped (Characters (Among inverted listing))) rest h = no_set (heads k 91 (125 ∷ rest) (caret inverted ++ (listing ++ 93 ∷ 125 ∷ rest)) h.0).0
  refute a b d f g (Shaped (Number Decimal limit)) rest h = b (heads k 100 (125 ∷ rest) (125 ∷ rest) h.0).0
  refute a b d f g (Shaped (Number Hexadecimal limit)) rest h = d (heads k 120 (125 ∷ rest) (125 ∷ rest) h.0).0
  refute a b d f g (Shaped (Number Float limit)) rest h = f (heads k 102 (125 ∷ rest) (125 ∷ rest) h.0).0
  refute a b d f g (Finds pattern) rest h = no_slash (heads k 47 (125 ∷ rest) (pattern ++ 47 ∷ 125 ∷ rest) h.0).0
  refute a b d f g Ends rest h = g (heads k 101 (125 ∷ rest) (125 ∷ rest) h).0

-- a name that begins with neither a bracket nor a slash has its brace next
brace_next : (s : Content) (n : Option ℕ) (k : ℕ) (more rest : List ℕ) → k ≢ 91 → k ≢ 47 → Name s n (k ∷ more) rest → more ≡ 125 ∷ rest
brace_next s n k more rest no_set no_slash (letter j is h g e) = (heads k j more (125 ∷ rest) e).1
brace_next s n k more rest no_set no_slash (set i l is e h) = absurd (no_set (heads k 91 more (caret i ++ (l ++ 93 ∷ 125 ∷ rest)) e).0)
brace_next s n k more rest no_set no_slash (slashes p is e h) = absurd (no_slash (heads k 47 more (p ++ 47 ∷ 125 ∷ rest) e).0)

letter_name : (n : Option ℕ) (k : ℕ) (more : List ℕ) → k ≢ 91 → k ≢ 47 → Named n (k ∷ more)
unfolding Named Stands Lettered
letter_name n k more no_set no_slash = elim (stands 125 more) [
  | inr none ↦ inr (λ s rest h. none rest (brace_next s n k more rest no_set no_slash (name_of s n (k ∷ more) rest h)))
  | inl (rest, f) ↦ elim (lettered k n no_set no_slash) [
    | inl (s, names) ↦ inl (s, rest, subst (λ (t : List ℕ). Names s n (k ∷ t) rest) (sym f) (names rest))
    | inr none ↦ inr (λ s r h. let same : rest ≡ r = (heads 125 125 rest r (sym f ∙ brace_next s n k more r no_set no_slash (name_of s n (k ∷ more) r h))).1 in
        none s r (subst (λ (t : List ℕ). Names s n (k ∷ t) r) (f ∙ ap (λ (t : List ℕ). 125 ∷ t) same) h))
  ]
]

name_in_front : (n : Option ℕ) (name : List ℕ) → Named n name
unfolding Named
name_in_front n [] = inr (λ s rest h. nothing s rest (name_of s n [] rest h)) where
  nothing : (s : Content) (rest : List ℕ) → Name s n [] rest → ⊥
  nothing s rest (letter k is h g e) = absurd (omega (arith, ap length e))
  nothing s rest (set i l is e h) = absurd (omega (arith, ap length e))
  nothing s rest (slashes p is e h) = absurd (omega (arith, ap length e))
name_in_front n (k ∷ more) = elim (cases_eq k 91) [
  | inl e ↦ subst (λ x. Named n (x ∷ more)) (sym e) (set_name n more)
  | inr no_set ↦ elim (cases_eq k 47) [
    | inl e ↦ subst (λ x. Named n (x ∷ more)) (sym e) (slash_name n more)
    | inr no_slash ↦ letter_name n k more no_set no_slash
  ]
]

-- the digits in front
digits_front : (text : List ℕ) → (ds : List ℕ) × (name : List ℕ) × IsLongest (AllDigits 10) text ds name
digits_front [] = ([], [], longest_stops (AllDigits 10) [] [] [] refl tt (λ c more at can. let bad : None ≡ Some c = at in cc))
digits_front (x ∷ xs) = elim (cases_lt (digit_value x) 10) [
  | inl low ↦ (let there = digits_front xs in (x ∷ there.0, there.1, longest_cons (AllDigits 10) (AllDigits 10) x xs there.0 there.1 there.2 (low, there.2.shape) (λ other can. can.1)))
  | inr high ↦ ([], x ∷ xs, longest_stops (AllDigits 10) (x ∷ xs) [] (x ∷ xs) refl tt (λ c more at can. let same : x ≡ c = (let k : Some x ≡ Some c = at in cc) in omega (arith, can.0, subst (λ y. 10 ≤ digit_value y) same high)))
]

Bodied : List ℕ → Type 0
Bodied text = ((s : Content) × (rest : List ℕ) × SpellsBody s text rest) ⊎ ((s : Content) (rest : List ℕ) → SpellsBody s text rest → ⊥)

body_in_front : (text : List ℕ) → Bodied text
unfolding Bodied Stands Named
body_in_front text = elim (stands 125 text) [
  | inl (rest, e) ↦ inl (Shaped (Characters (Until (first rest))), rest, alone (first rest) refl e refl)
  | inr no_brace ↦ (let front = digits_front text in elim (name_in_front (limit_of front.0) front.1) [
    | inl (s, rest, h) ↦ inl (s, rest, body_named s text front.0 front.1 rest (limit_of front.0) front.2 refl h)
    | inr none ↦ inr (body_none text front.0 front.1 (limit_of front.0) front.2 refl no_brace none)
  ])
]

Fielded : List ℕ → Type 0
Fielded text = ((stored : Bool) × (s : Content) × (rest : List ℕ) × SpellsField stored s text rest) ⊎ ((stored : Bool) (s : Content) (rest : List ℕ) → SpellsField stored s text rest → ⊥)

field_in_front : (text : List ℕ) → Fielded text
unfolding Fielded Bodied Stands
field_in_front text = elim (stands 42 text) [
  | inl (more, e) ↦ elim (body_in_front more) [
    | inl (s, rest, h) ↦ inl (false, s, rest, (more, e, h))
    | inr none ↦ inr (field_none_star text more e none)
  ]
  | inr plain ↦ elim (body_in_front text) [
    | inl (s, rest, h) ↦ inl (true, s, rest, (text, refl, h))
    | inr none ↦ inr (field_none_plain text plain none)
  ]
]

-- a directive in front, or none
Front : List ℕ → Type 0
Front format = ((d : Directive) × (rest : List ℕ) × Spells d format rest) ⊎ NoDirective format

nothing_spells : NoDirective []
nothing_spells (Exactly c) rest (inl h) = absurd (omega (arith, ap length h.0))
nothing_spells (Exactly c) rest (inr (inl h)) = absurd (omega (arith, ap length h.0))
nothing_spells (Exactly c) rest (inr (inr h)) = absurd (omega (arith, ap length h))
nothing_spells (Field stored s) rest (body, e, h) = absurd (omega (arith, ap length e))
nothing_spells (Expression stored p) rest (body, e, any, digits, delimited, some) = absurd (omega (arith, ap length e))
nothing_spells AtEnd rest (body, starred, any, e, h) = absurd (omega (arith, ap length e))

no_field : (text : List ℕ) → 125 ∷ [] ≡ 123 ∷ text → ⊥
no_field text e = apart (heads 125 123 [] text e).0 where
  apart : ◌≡◌ {A = ℕ} 125 123 → ⊥
  apart k = omega arith

lone_brace : NoDirective (125 ∷ [])
lone_brace (Exactly c) rest (inl h) = h.2 (sym (heads 125 c [] rest h.0).0)
lone_brace (Exactly c) rest (inr (inl h)) = absurd (omega (arith, ap length h.0))
lone_brace (Exactly c) rest (inr (inr h)) = absurd (omega (arith, ap length h))
lone_brace (Field stored s) rest (body, e, h) = no_field (star stored ++ body) e
lone_brace (Expression stored p) rest (body, e, any, digits, delimited, some) = no_field (star stored ++ body) e
lone_brace AtEnd rest (body, starred, any, e, h) = no_field (star starred ++ body) e

after_close : (cs : List ℕ) → Front (125 ∷ cs)
unfolding Front
after_close [] = inr lone_brace
after_close (x ∷ rest) = inl (Exactly x, rest, inr (inr refl))

-- whether `regex` reads the pattern, if there is one
is_some_or : {A : Type 0} (o : Option A) → IsSome o ⊎ (IsSome o → ⊥)
is_some_or None = inr (λ h. let bad : false ≡ true = h in cc)
is_some_or (Some x) = inl refl

readable : (s : Content) → IsReadable s ⊎ (IsReadable s → ⊥)
readable (Shaped s) = inl tt
readable (Finds pattern) = is_some_or (expression pattern)
readable Ends = inl tt

-- where one field stands in front whose pattern isn't read, none stands there whose pattern is
pub none_readable : (stored : Bool) (s : Content) (text rest : List ℕ) → SpellsField stored s text rest → (IsReadable s → ⊥) → (other : Bool) (z : Content) (q : List ℕ) → SpellsField other z text q → IsReadable z → ⊥
none_readable stored s text rest h unread other z q k is = unread (subst IsReadable (sym (fields_one stored other s z text rest q h k).1) is)

after_open : (cs : List ℕ) → Front (123 ∷ cs)
unfolding Front Fielded Stands
after_open cs = elim (stands 123 cs) [
  | inl (rest, e) ↦ inl (Exactly 123, rest, inr (inl (ap (λ (t : List ℕ). 123 ∷ t) e, refl)))
  | inr opens ↦ elim (field_in_front cs) [
    | inr none ↦ inr (directive_none (123 ∷ cs) cs refl opens (λ stored s rest h is. none stored s rest h))
    | inl (stored, s, rest, h) ↦ elim (readable s) [
      | inl is ↦ inl (field_of stored s, rest, field_spells stored s cs rest h is)
      | inr unread ↦ inr (directive_none (123 ∷ cs) cs refl opens (none_readable stored s cs rest h unread))
    ]
  ]
]

directive_in_front : (format : List ℕ) → Front format
unfolding Front
directive_in_front [] = inr nothing_spells
directive_in_front (c ∷ cs) = elim (cases_eq c 125) [
  | inl e ↦ subst (λ x. Front (x ∷ cs)) (sym e) (after_close cs)
  | inr no_close ↦ elim (cases_eq c 123) [
    | inl e ↦ subst (λ x. Front (x ∷ cs)) (sym e) (after_open cs)
    | inr no_open ↦ inl (Exactly c, cs, inl (refl, no_open, no_close))
  ]
]

-- a directive is at least a character long
name_longer : (s : Content) (n : Option ℕ) (name rest : List ℕ) → Name s n name rest → length rest < length name
name_longer s n name rest (letter k is h g e) = omega (arith, ap length e)
name_longer s n name rest (slashes p is e h) = omega (arith, ap length e, length-append p (47 ∷ 125 ∷ rest))
name_longer s n name rest (set i l is e h) = omega (arith, ap length e, length-append (caret i) (l ++ 93 ∷ 125 ∷ rest), length-append l (93 ∷ 125 ∷ rest))

body_longer : (s : Content) (text rest : List ℕ) → SpellsBody s text rest → length rest < length text
body_longer s text rest (alone stop is e at) = omega (arith, ap length e)
body_longer s text rest (named n) = omega (arith, ap length n.whole, length-append n.ds n.name, name_longer s (limit_of n.ds) n.name rest (name_of s (limit_of n.ds) n.name rest n.named))

pub spells_longer : (d : Directive) (format rest : List ℕ) → Spells d format rest → length rest < length format
spells_longer (Exactly c) format rest (inl h) = omega (arith, ap length h.0)
spells_longer (Exactly c) format rest (inr (inl h)) = omega (arith, ap length h.0)
spells_longer (Exactly c) format rest (inr (inr h)) = omega (arith, ap length h)
spells_longer (Field stored s) format rest (body, e, h) = omega (arith, ap length e, length-append (star stored) body, body_longer (Shaped s) body rest (shape_body s body rest h))
spells_longer (Expression stored p) format rest (body, e, any, digits, delimited, some) = omega (arith, ap length e, length-append (star stored) body, body_longer (Finds p) body rest (expression_body p body rest (any, digits, delimited, some)))
spells_longer AtEnd format rest (body, starred, any, e, h) = omega (arith, ap length e, length-append (star starred) body, body_longer Ends body rest (end_body body rest any h))

pub blanks_shorter : (text : List ℕ) → length (after_blanks text) ≤ length text
blanks_shorter [] = omega arith
blanks_shorter (c ∷ cs) = elim (cases_Bool (is_blank c)) [ inl e ↦ rw e (omega (arith, blanks_shorter cs)) | inr e ↦ rw e (omega arith) ]

cut_within : (n : ℕ) (format : List ℕ) → length format ≤ n → (ds : List Directive) × Cuts format ds
unfolding Front
cut_within zero format fits = elim (directive_in_front (after_blanks format)) [
  | inl (d, rest, h) ↦ absurd (omega (arith, spells_longer d (after_blanks format) rest h, blanks_shorter format))
  | inr none ↦ ([], none)
]
cut_within (suc n) format fits = elim (directive_in_front (after_blanks format)) [
  | inl (d, rest, h) ↦ (let more = cut_within n rest (omega (arith, spells_longer d (after_blanks format) rest h, blanks_shorter format)) in (d ∷ more.0, (rest, h, more.1)))
  | inr none ↦ ([], none)
]

-- each format is cut into directives
pub cuts_some : (format : List ℕ) → (ds : List Directive) × Cuts format ds
cuts_some format = cut_within (length format) format (omega arith)
