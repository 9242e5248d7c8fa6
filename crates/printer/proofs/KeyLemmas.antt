-- The value that a key names is that at the first of two positions.
use Rattle.std.proofs.Common.{◌≡◌, ℕ, suc, ◌+◌, ◌-◌, ◌<◌, ◌≤◌, ◌^◌, ◌||◌, ◌==◌, Bool, true, false, nat_le, if◌then◌else◌, List, [], ◌∷◌, ◌++◌, map, length, get_or, take, bytes_eq, min, refl, sym, ap, ◌∙◌, arith, Option, Some, None}
use Rattle.std.specs.Prelude.{⊤, slice_get, option_and_then}
use Rattle.std.specs.Option.{option_map, option_or}
use Rattle.std.specs.Bool.{one_answer}
use Rattle.std.proofs.Math.Path.{fun_ext}
use Rattle.std.proofs.lemmas.Bool.Decides.{nat_tests, Decides-like}
use Rattle.std.proofs.lemmas.List.{length-map, length-take-le, map-append, take_more}
use Rattle.std.proofs.lemmas.Option.{slice_get-map}
use Rattle.std.proofs.lemmas.Slice.Eq.{bytes_eq-Decides}
use Rattle.numerals.specs.Numeral.{numeral}
use Rattle.numerals.proofs.Steps.{numeral-injective}
use Rattle.strfmt.specs.Text.{Meaning}
use Rattle.formatx.specs.Scene.{with_name}
use Rattle.values.specs.declared.value.Value.{Value}
use Rattle.values.specs.declared.word.Word.{Word}
use Rattle.values.specs.Datum.{kind_of, datum_of, each_of, word_text}
use Rattle.values.specs.Decimal.{IsDecimal}
use Rattle.values.specs.Templates.{strfmt_meaning, value_display}
use Rattle.printer.specs.Text.{value_at_key, named_from}
use Rattle.printer.specs.Keys.{first_of}
use Rattle.printer.proofs.ValueLemmas.{each_value}

-- ---- the first of two positions

abbrev IsFrom : ℕ → Option ℕ → Type 0
IsFrom place None = ⊤
IsFrom place (Some n) = place ≤ n

-- a position, if it isn't before the place
abbrev from : ℕ → Option ℕ → Option ℕ
from place None = None
from place (Some n) = if nat_le place n then Some n else None

abbrev hits : ℕ → Option ℕ → Bool
hits place None = false
hits place (Some n) = n == place

from-is : (place : ℕ) (number : Option ℕ) → IsFrom place (from place number)
from-is place None = tt
from-is place (Some n) = by_test (nat_le place n) refl
  where
    by_test : (test : Bool) → nat_le place n ≡ test → IsFrom place (if test then Some n else None)
    by_test true e = grind (arith, nat_tests)
    by_test false e = tt

from-step : (place : ℕ) (number : Option ℕ) → from place number ≡ (if hits place number then Some place else from (place + 1) number)
from-step place None = refl
from-step place (Some n) = grind (arith, nat_tests)

from-zero : (number : Option ℕ) → from 0 number ≡ number
from-zero None = refl
from-zero (Some n) = grind (arith, nat_tests)

-- the key is the numeral of the place where its number is the place
numbered : (key : List ℕ) (number : Option ℕ) (place : ℕ) → IsDecimal key number → place < 2 ^ 64 → bytes_eq key (numeral 10 false place) ≡ hits place number
numbered key None place none small = not_equal (bytes_eq key (numeral 10 false place)) (bytes_eq-Decides key (numeral 10 false place)).0
  where
    not_equal : (test : Bool) → (test ≡ true → key ≡ numeral 10 false place) → test ≡ false
    not_equal true h = absurd (none place small (h refl))
    not_equal false h = refl
numbered key (Some n) place is small =
    one_answer (bytes_eq key (numeral 10 false place)) (n == place)
    (Decides-like (bytes_eq key (numeral 10 false place)) (λ e. numeral-injective 10 n place false (omega arith) (omega arith) (omega (arith, is.0)) (omega (arith, small)) (sym is.1 ∙ e)) (λ e. is.1 ∙ ap (numeral 10 false) e) (bytes_eq-Decides key (numeral 10 false place)))
    (Decides-eq n place)
  where
    Decides-eq : (a b : ℕ) → ((a == b) ≡ true → a ≡ b) × (a ≡ b → (a == b) ≡ true)
    Decides-eq a b = (λ h. grind (arith, nat_tests), λ h. grind (arith, nat_tests))

equal_either_way : (a b : List ℕ) → bytes_eq a b ≡ bytes_eq b a
equal_either_way a b = one_answer (bytes_eq a b) (bytes_eq b a) (bytes_eq-Decides a b) (Decides-like (bytes_eq b a) sym sym (bytes_eq-Decides b a))

IsFrom-earlier : (place later : ℕ) (o : Option ℕ) → place ≤ later → IsFrom later o → IsFrom place o
IsFrom-earlier place later None le h = tt
IsFrom-earlier place later (Some n) le h = omega (arith, le, h)

chosen_is_from : (place : ℕ) (test : Bool) (o : Option ℕ) → IsFrom place o → IsFrom place (if test then Some place else o)
chosen_is_from place true o h = omega arith
chosen_is_from place false o h = h

named_is_from : (place : ℕ) (names : List (List ℕ)) (key : List ℕ) → IsFrom place (named_from place names key)
named_is_from place [] key = tt
named_is_from place (name ∷ names) key =
    chosen_is_from place (bytes_eq name key) (named_from (place + 1) names key) (IsFrom-earlier place (place + 1) (named_from (place + 1) names key) (omega arith) (named_is_from (place + 1) names key))

-- the value at an absolute position
abbrev at : {A : Type 0} → ℕ → List A → Option ℕ → Option A
at place values o = option_and_then (λ i. slice_get values (i - place)) o

at-none : {A : Type 0} (place : ℕ) (o : Option ℕ) → at {A = A} place [] o ≡ None
at-none place None = refl
at-none place (Some n) = refl

get-first : {A : Type 0} (v : A) (values : List A) (k : ℕ) → k ≡ 0 → Some v ≡ slice_get (v ∷ values) k
get-first v values k e = ap (λ (i : ℕ). slice_get (v ∷ values) i) (sym e)

get-later : {A : Type 0} (v : A) (values : List A) (k j : ℕ) → k ≡ suc j → slice_get values j ≡ slice_get (v ∷ values) k
get-later v values k j e = ap (λ (i : ℕ). slice_get (v ∷ values) i) (sym e)

step : {A : Type 0} (v : A) (values : List A) (place : ℕ) (a b : Bool) (r s : Option ℕ) (rest : Option A) → IsFrom (place + 1) r → IsFrom (place + 1) s → rest ≡ at (place + 1) values (first_of r s)
    → (if a || b then Some v else rest) ≡ at place (v ∷ values) (first_of (if a then Some place else r) (if b then Some place else s))
step v values place true true r s rest h k e = get-first v values (min place place - place) (omega arith)
step v values place true false r None rest h k e = get-first v values (place - place) (omega arith)
step v values place true false r (Some n) rest h k e = get-first v values (min place n - place) (omega arith)
step v values place false true None s rest h k e = get-first v values (place - place) (omega arith)
step v values place false true (Some m) s rest h k e = get-first v values (min m place - place) (omega arith)
step v values place false false None None rest h k e = e
step v values place false false None (Some n) rest h k e = e ∙ get-later v values (n - place) (n - (place + 1)) (omega (arith, k))
step v values place false false (Some m) None rest h k e = e ∙ get-later v values (m - place) (m - (place + 1)) (omega (arith, h))
step v values place false false (Some m) (Some n) rest h k e = e ∙ get-later v values (min m n - place) (min m n - (place + 1)) (omega (arith, h, k))

or_false : (a : Bool) → (a || false) ≡ a
or_false true = refl
or_false false = refl

found_from : {A : Type 0} (place : ℕ) (names : List (List ℕ)) (values : List A) (key : List ℕ) (number : Option ℕ) → IsDecimal key number → place + length values ≤ 2 ^ 64
    → value_at_key place names values key ≡ at place values (first_of (from place number) (named_from place names key))
found_from place [] [] key number is short = sym (at-none place (first_of (from place number) None))
found_from place (name ∷ names) [] key number is short = sym (at-none place (first_of (from place number) (named_from place (name ∷ names) key)))
found_from {A = A} place [] (value ∷ values) key number is short =
    let rest : Option A = value_at_key (place + 1) [] values key in
    let test : bytes_eq key (numeral 10 false place) ≡ (hits place number || false) = numbered key number place is (omega (arith, short)) ∙ sym (or_false (hits place number)) in
    ap (λ (b : Bool). if b then Some value else rest) test
    ∙ step value values place (hits place number) false (from (place + 1) number) None rest (from-is (place + 1) number) tt (found_from (place + 1) [] values key number is (omega (arith, short)))
    ∙ ap (λ (o : Option ℕ). at place (value ∷ values) (first_of o None)) (sym (from-step place number))
found_from {A = A} place (name ∷ names) (value ∷ values) key number is short =
    let rest : Option A = value_at_key (place + 1) names values key in
    let later : Option ℕ = named_from (place + 1) names key in
    ap (λ (b : Bool). if b || bytes_eq key name then Some value else rest) (numbered key number place is (omega (arith, short)))
    ∙ ap (λ (b : Bool). if hits place number || b then Some value else rest) (equal_either_way key name)
    ∙ step value values place (hits place number) (bytes_eq name key) (from (place + 1) number) later rest (from-is (place + 1) number) (named_is_from (place + 1) names key) (found_from (place + 1) names values key number is (omega (arith, short)))
    ∙ ap (λ (o : Option ℕ). at place (value ∷ values) (first_of o (if bytes_eq name key then Some place else later))) (sym (from-step place number))

-- the value at a key is that at the first of its positions, in decimal and by name
pub found : {A : Type 0} (names : List (List ℕ)) (values : List A) (key : List ℕ) (number : Option ℕ) → IsDecimal key number → length values ≤ 2 ^ 64
    → value_at_key 0 names values key ≡ option_and_then (λ i. slice_get values i) (first_of number (named_from 0 names key))
found {A = A} names values key number is short =
    found_from 0 names values key number is (omega (arith, short))
    ∙ ap (λ (o : Option ℕ). at 0 values (first_of o (named_from 0 names key))) (from-zero number)
    ∙ start (first_of number (named_from 0 names key))
  where
    start : (o : Option ℕ) → at 0 values o ≡ option_and_then (λ i. slice_get values i) o
    start None = refl
    start (Some n) = ap (λ (i : ℕ). slice_get values i) (omega arith)

get-mapped : {A B : Type 0} (f : A → B) (values : List A) (o : Option ℕ) → option_and_then (λ i. slice_get (map f values) i) o ≡ option_map f (option_and_then (λ i. slice_get values i) o)
get-mapped f values None = refl
get-mapped f values (Some i) = slice_get-map f values i

-- what a value displays is what its key means
pub value_found : (names : List (List ℕ)) (values : List Value) (key : List ℕ) (number : Option ℕ) → IsDecimal key number → length values ≤ 2 ^ 64
    → option_map value_display (option_and_then (λ i. slice_get values i) (first_of number (named_from 0 names key))) ≡ value_at_key 0 names (each_of strfmt_meaning (map kind_of values) (map datum_of values)) key
value_found names values key number is short =
    sym (get-mapped value_display values (first_of number (named_from 0 names key)))
    ∙ sym (found names (map value_display values) key number is (omega (arith, short, length-map values value_display)))
    ∙ ap (λ (ms : List Meaning). value_at_key 0 names ms key) (each_value strfmt_meaning values)

-- ---- a further name

-- a text that is the name stands for its place, where no name in front is the same
pub named_from-push : (place : ℕ) (names : List (List ℕ)) (name key : List ℕ) → named_from place (names ++ name ∷ []) key ≡ option_or (named_from place names key) (if bytes_eq name key then Some (place + length names) else None)
named_from-push place [] name key = ap (λ (i : ℕ). if bytes_eq name key then Some i else None) (let e : place ≡ place + 0 = omega arith in e)
named_from-push place (first ∷ names) name key =
    ap (λ (o : Option ℕ). if bytes_eq first key then Some place else o) (named_from-push (place + 1) names name key)
    ∙ either (bytes_eq first key) (named_from (place + 1) names key)
    ∙ ap (λ (i : ℕ). option_or (named_from place (first ∷ names) key) (if bytes_eq name key then Some i else None)) (let e : place + 1 + length names ≡ place + length (first ∷ names) = omega arith in e)
  where
    either : (test : Bool) (later : Option ℕ) → (if test then Some place else option_or later (if bytes_eq name key then Some (place + 1 + length names) else None)) ≡ option_or (if test then Some place else later) (if bytes_eq name key then Some (place + 1 + length names) else None)
    either true later = refl
    either false later = refl

-- the words up to a place are the names, and one more is the next name
pub word_named : (words : List Word) (index : ℕ) (word : Word) (copies : List Word) (copy : Word) → index < length words → map word_text copies ≡ map word_text (take index words) → word_text copy ≡ word_text word → word ≡ get_or words index word
    → map word_text (copies ++ copy ∷ []) ≡ map word_text (take (index + 1) words)
word_named words index word copies copy within named same is =
    map-append word_text copies (copy ∷ [])
    ∙ ap (λ (ts : List (List ℕ)). ts ++ word_text copy ∷ []) named ∙ ap (λ (t : List ℕ). map word_text (take index words) ++ t ∷ []) (same ∙ ap word_text is)
    ∙ sym (ap (map word_text) (take_more words index word within) ∙ map-append word_text (take index words) (get_or words index word ∷ []))

pub position_named : (words : List Word) (index : ℕ) (word : Word) (positions : List ℕ → Option ℕ) → index < length words → positions ≡ named_from 0 (map word_text (take index words)) → word ≡ get_or words index word
    → with_name positions (word_text word) index ≡ named_from 0 (map word_text (take (index + 1) words))
position_named words index word positions within named is =
    let texts : map word_text (take (index + 1) words) ≡ map word_text (take index words) ++ word_text word ∷ [] =
    ap (map word_text) (take_more words index word within) ∙ map-append word_text (take index words) (get_or words index word ∷ []) ∙ ap (λ (w : Word). map word_text (take index words) ++ word_text w ∷ []) (sym is) in
    let count : index ≡ 0 + length (map word_text (take index words)) = omega (arith, length-map (take index words) word_text, length-take-le index words (omega (arith, within))) in
    ap (λ (p : List ℕ → Option ℕ). with_name p (word_text word) index) named
    ∙ ap (with_name (named_from 0 (map word_text (take index words))) (word_text word)) count
    ∙ fun_ext (λ key. sym (named_from-push 0 (map word_text (take index words)) (word_text word) key))
    ∙ ap (named_from 0) (sym texts)
