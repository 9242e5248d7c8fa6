-- How far digits, signs, prefixes, fractions and exponents reach.
use Rattle.std.proofs.Common.{eqb, ◌≡◌, ◌≢◌, ◌⊎◌, ◌<◌, ◌≤◌, ℕ, zero, suc, true, false, List, [], ◌∷◌, ◌++◌, length, take, drop, get_or, Some, None, sym, ap, subst, refl, inl, inr, ◌∙◌, arith, append_assoc}
use Rattle.std.specs.List.{AllByRecursion}
use Rattle.std.specs.Char.{digit_value}
use Rattle.std.specs.Str.Parse.{AllDigits}
use Rattle.std.proofs.lemmas.Bool.{and_parts, eqb-true}
use Rattle.std.proofs.lemmas.Bool.Decides.{nat_tests}
use Rattle.scan_fmt.specs.Grammar.{Notation, Decimal, Hexadecimal, Float, first}
use Rattle.scan_fmt.specs.Scanned.{IsLongest, Optionally, IsSigned, IsNumber}
use Rattle.scan_fmt.specs.Inner.Found.{IsPrefixed, IsFloat, begins_0x}
use Rattle.scan_fmt.proofs.Longest.{longest_stops, longest_stops_at, longest_same, longest_cons, longest_then}

pub all_digits_more : (b c : ℕ) (xs more : List ℕ) → AllDigits b (xs ++ c ∷ more) → digit_value c < b
all_digits_more b c [] more h = h.0
all_digits_more b c (x ∷ xs) more h = all_digits_more b c xs more h.1

-- the character at a place, as the first of what follows it
pub first_at : (text : List ℕ) (n c : ℕ) → first (drop n text) ≡ Some c → (n < length text) × (get_or text n 0 ≡ c)
first_at [] zero c e = absurd (cc)
first_at [] (suc n) c e = absurd (cc)
first_at (x ∷ text) zero c e = (omega arith, (let same : x ≡ c = cc in same))
first_at (x ∷ text) (suc n) c e = let there = first_at text n c e in (omega (arith, there.0), there.1)

-- digits up to a place where none stands
pub digits_end : (b : ℕ) (text : List ℕ) (n : ℕ) → AllDigits b (take n text) → (n < length text → ¬ (digit_value (get_or text n 0) < b)) → IsLongest (AllDigits b) text (take n text) (drop n text)
digits_end b text n run stop =
    longest_stops_at (AllDigits b) text n run
    (λ c more at can. let there = first_at text n c at in stop there.0 (subst (λ x. digit_value x < b) (sym there.1) (all_digits_more b c (take n text) more can)))

heads : (x y : ℕ) (r q : List ℕ) → x ∷ r ≡ y ∷ q → (x ≡ y) × (r ≡ q)
heads x y r q e = ((let h : x ≡ y = cc in h), (let h : r ≡ q = cc in h))

-- a sign in front
pub signed_sign : (text : List ℕ) (c n : ℕ) → first text ≡ Some c → (c ≡ 43) ⊎ (c ≡ 45) → IsLongest (AllDigits 10) (drop 1 text) (take n (drop 1 text)) (drop n (drop 1 text)) → IsLongest IsSigned text (take (suc n) text) (drop (suc n) text)
signed_sign [] c n at sign long = absurd (let bad : None ≡ Some c = at in cc)
signed_sign (x ∷ text) c n at sign long =
    let same : x ≡ c = cc in
    longest_cons (AllDigits 10) IsSigned x text (take n text) (drop n text) long (is_sign x c same sign, long.shape) (λ other can. can.1)
  where
    is_sign : (x c : ℕ) → x ≡ c → (c ≡ 43) ⊎ (c ≡ 45) → (x ≡ 43) ⊎ ((x ≡ 45) ⊎ (digit_value x < 10))
    is_sign x c e (inl h) = inl (e ∙ h)
    is_sign x c e (inr h) = inr (inl (e ∙ h))

pub digits_signed : (text : List ℕ) → AllDigits 10 text → IsSigned text
digits_signed [] h = tt
digits_signed (c ∷ cs) h = (inr (inr h.0), h.1)

-- no sign in front
pub signed_plain : (text a r : List ℕ) → first text ≢ Some 43 → first text ≢ Some 45 → IsLongest (AllDigits 10) text a r → IsLongest IsSigned text a r
signed_plain text a r plus minus long = longest_same (AllDigits 10) IsSigned text a r long (digits_signed a long.shape) back where
  back : (other more : List ℕ) → text ≡ other ++ more → IsSigned other → AllDigits 10 other
  back [] more e can = tt
  back (x ∷ other) more e (inl h, ds) = absurd (plus (ap first e ∙ ap Some h))
  back (x ∷ other) more e (inr (inl h), ds) = absurd (minus (ap first e ∙ ap Some h))
  back (x ∷ other) more e (inr (inr h), ds) = (h, ds)

-- a character in front of what may follow it, and none
pub optional_some : (P : List ℕ → Type 0) (c : ℕ) (text : List ℕ) (n : ℕ) → first text ≡ Some c → IsLongest P (drop 1 text) (take n (drop 1 text)) (drop n (drop 1 text)) → IsLongest (Optionally c P) text (take (suc n) text) (drop (suc n) text)
optional_some P c [] n at long = absurd (let bad : None ≡ Some c = at in cc)
optional_some P c (x ∷ text) n at long = let same : x ≡ c = cc in longest_cons P (Optionally c P) x text (take n text) (drop n text) long (same, long.shape) (λ other can. can.1)

pub optional_none : (P : List ℕ → Type 0) (c : ℕ) (text : List ℕ) → first text ≢ Some c → IsLongest (Optionally c P) text [] text
optional_none P c text lacks = longest_stops (Optionally c P) text [] text refl tt (λ d more at can. lacks (at ∙ ap Some can.0))

-- the forms of a hexadecimal number
pub data Form (text : List ℕ) : Type 0 where
  bare : AllDigits 16 text → Form text
  with_x : (ds : List ℕ) → text ≡ 120 ∷ ds → AllDigits 16 ds → Form text
  with_0x : (ds : List ℕ) → text ≡ 48 ∷ 120 ∷ ds → AllDigits 16 ds → Form text

form : (text zero x ds : List ℕ) → text ≡ zero ++ (x ++ ds) → Optionally 48 (λ t. t ≡ []) zero → Optionally 120 (λ t. t ≡ []) x → AllDigits 16 ds → Form text
form text [] [] ds e z k each = bare (subst (AllDigits 16) (sym e) each)
form text [] (x ∷ xs) ds e z k each = let P : ℕ → List ℕ → Type 0 = λ y ys. text ≡ y ∷ (ys ++ ds) in with_x ds (subst (λ y. text ≡ y ∷ ds) k.0 (subst (λ (ys : List ℕ). text ≡ x ∷ (ys ++ ds)) k.1 e)) each
form text (y ∷ ys) [] ds e z k each = let at : text ≡ 48 ∷ ds = subst (λ w. text ≡ w ∷ ds) z.0 (subst (λ (ws : List ℕ). text ≡ y ∷ (ws ++ ds)) z.1 e) in bare (subst (AllDigits 16) (sym at) (omega arith, each))
form text (y ∷ ys) (x ∷ xs) ds e z k each =
    let one : text ≡ 48 ∷ x ∷ (xs ++ ds) = subst (λ w. text ≡ w ∷ x ∷ (xs ++ ds)) z.0 (subst (λ (ws : List ℕ). text ≡ y ∷ (ws ++ (x ∷ xs ++ ds))) z.1 e) in
    with_0x ds (subst (λ w. text ≡ 48 ∷ w ∷ ds) k.0 (subst (λ (ws : List ℕ). text ≡ 48 ∷ x ∷ (ws ++ ds)) k.1 one)) each

pub form_of : (text : List ℕ) → IsPrefixed text → Form text
form_of text h = form text h.0 h.1 h.2 h.3 h.4 h.5 h.6

not_hex : (c : ℕ) → c ≡ 120 → digit_value c < 16 → ⊥
not_hex c e h = let k : digit_value 120 < 16 = subst (λ x. digit_value x < 16) e h in omega arith

pub after_x : (more : List ℕ) → Form (120 ∷ more) → AllDigits 16 more
after_x more (bare each) = absurd (not_hex 120 refl each.0)
after_x more (with_x ds e each) = subst (AllDigits 16) (sym (heads _ _ _ _ e).1) each
after_x more (with_0x ds e each) = absurd (let k : 120 ≡ 48 = (heads _ _ _ _ e).0 in omega arith)

pub after_0x : (more : List ℕ) → Form (48 ∷ 120 ∷ more) → AllDigits 16 more
after_0x more (bare each) = absurd (not_hex 120 refl each.1.0)
after_0x more (with_x ds e each) = absurd (let k : 48 ≡ 120 = (heads _ _ _ _ e).0 in omega arith)
after_0x more (with_0x ds e each) = subst (AllDigits 16) (sym (heads _ _ _ _ (heads _ _ _ _ e).1).1) each

pub prefixed_x_cons : (x : ℕ) (text a r : List ℕ) → x ≡ 120 → IsLongest (AllDigits 16) text a r → IsLongest IsPrefixed (x ∷ text) (x ∷ a) r
prefixed_x_cons x text a r same long =
    longest_cons (AllDigits 16) IsPrefixed x text a r long ([], x ∷ [], a, refl, tt, (same, refl), long.shape)
    (λ other can. after_x other (form_of _ (subst (λ y. IsPrefixed (y ∷ other)) same can)))

pub prefixed_x : (text : List ℕ) (n : ℕ) → first text ≡ Some 120 → IsLongest (AllDigits 16) (drop 1 text) (take n (drop 1 text)) (drop n (drop 1 text)) → IsLongest IsPrefixed text (take (suc n) text) (drop (suc n) text)
prefixed_x [] n at long = absurd (let bad : None ≡ Some 120 = at in cc)
prefixed_x (x ∷ text) n at long = let same : x ≡ 120 = cc in prefixed_x_cons x text (take n text) (drop n text) same long

-- `0x` in front
pub begins_0x_is : (text : List ℕ) → begins_0x text ≡ true → (rest : List ℕ) × (text ≡ 48 ∷ 120 ∷ rest)
begins_0x_is [] h = absurd (cc)
begins_0x_is (x ∷ []) h = absurd (let k = and_parts (eqb x 48) (eqb 0 120) h in let bad : false ≡ true = k.1 in cc)
begins_0x_is (x ∷ y ∷ rest) h = let k = and_parts (eqb x 48) (eqb y 120) h in
    (rest, (let one : x ≡ 48 = eqb-true x 48 k.0 in let two : y ≡ 120 = eqb-true y 120 k.1 in cc))

pub begins_0x_not : (text rest : List ℕ) → begins_0x text ≡ false → text ≢ 48 ∷ 120 ∷ rest
begins_0x_not text rest lacks e = let bad : begins_0x (48 ∷ 120 ∷ rest) ≡ false = subst (λ (t : List ℕ). begins_0x t ≡ false) e lacks in cc

abbrev AfterZero : List ℕ → Type 0
AfterZero t = IsPrefixed (48 ∷ t)

pub prefixed_0x_cons : (rest a r : List ℕ) → IsLongest (AllDigits 16) rest a r → IsLongest IsPrefixed (48 ∷ 120 ∷ rest) (48 ∷ 120 ∷ a) r
prefixed_0x_cons rest a r long =
    longest_cons AfterZero IsPrefixed 48 (120 ∷ rest) (120 ∷ a) r
    (longest_cons (AllDigits 16) AfterZero 120 rest a r long (48 ∷ [], 120 ∷ [], a, refl, (refl, refl), (refl, refl), long.shape) (λ other can. after_0x other (form_of _ can)))
    (48 ∷ [], 120 ∷ [], a, refl, (refl, refl), (refl, refl), long.shape) (λ other can. can)

pub prefixed_0x : (text : List ℕ) (n : ℕ) → begins_0x text ≡ true → IsLongest (AllDigits 16) (drop 2 text) (take n (drop 2 text)) (drop n (drop 2 text)) → IsLongest IsPrefixed text (take (suc (suc n)) text) (drop (suc (suc n)) text)
prefixed_0x text n at long =
    let front = begins_0x_is text at in
    subst (λ (t : List ℕ). IsLongest (AllDigits 16) (drop 2 t) (take n (drop 2 t)) (drop n (drop 2 t)) → IsLongest IsPrefixed t (take (suc (suc n)) t) (drop (suc (suc n)) t)) (sym front.1)
    (prefixed_0x_cons front.0 (take n front.0) (drop n front.0)) long

pub prefixed_bare : (text a r : List ℕ) → begins_0x text ≡ false → first text ≢ Some 120 → IsLongest (AllDigits 16) text a r → IsLongest IsPrefixed text a r
prefixed_bare text a r no_0x no_x long = longest_same (AllDigits 16) IsPrefixed text a r long ([], [], a, refl, tt, tt, long.shape) (λ other more e can. back other more e (form_of other can)) where
  back : (other more : List ℕ) → text ≡ other ++ more → Form other → AllDigits 16 other
  back other more e (bare each) = each
  back other more e (with_x ds is each) = absurd (no_x (ap first (e ∙ ap (λ (t : List ℕ). t ++ more) is)))
  back other more e (with_0x ds is each) = absurd (begins_0x_not text (ds ++ more) no_0x (e ∙ ap (λ (t : List ℕ). t ++ more) is))

-- the characters of a text with a property of each
pub each_at : (P : ℕ → Type 0) (c : ℕ) (xs more : List ℕ) → AllByRecursion P (xs ++ c ∷ more) → P c
each_at P c [] more h = h.0
each_at P c (x ∷ xs) more h = each_at P c xs more h.1

pub each_append : (P : ℕ → Type 0) (xs ys : List ℕ) → AllByRecursion P xs → AllByRecursion P ys → AllByRecursion P (xs ++ ys)
each_append P [] ys h k = k
each_append P (x ∷ xs) ys h k = (h.0, each_append P xs ys h.1 k)

pub each_weaker : (P Q : ℕ → Type 0) (xs : List ℕ) → ((c : ℕ) → P c → Q c) → AllByRecursion P xs → AllByRecursion Q xs
each_weaker P Q [] f h = tt
each_weaker P Q (x ∷ xs) f h = (f x h.0, each_weaker P Q xs f h.1)

-- a character of a decimal number, and one of its fraction
abbrev IsWhole : ℕ → Type 0
IsWhole c = (c ≡ 43) ⊎ ((c ≡ 45) ⊎ (digit_value c < 10))

abbrev IsPoint : ℕ → Type 0
IsPoint c = (c ≡ 46) ⊎ IsWhole c

digits_each : (xs : List ℕ) → AllDigits 10 xs → AllByRecursion IsWhole xs
digits_each [] h = tt
digits_each (x ∷ xs) h = (inr (inr h.0), digits_each xs h.1)

signed_each : (xs : List ℕ) → IsSigned xs → AllByRecursion IsWhole xs
signed_each [] h = tt
signed_each (x ∷ xs) h = (h.0, digits_each xs h.1)

fraction_each : (xs : List ℕ) → Optionally 46 (AllDigits 10) xs → AllByRecursion IsPoint xs
fraction_each [] h = tt
fraction_each (x ∷ xs) h = (inl h.0, each_weaker IsWhole IsPoint xs (λ c k. inr k) (digits_each xs h.1))

not_whole : (c d : ℕ) → IsWhole c → c ≡ d → IsWhole d
not_whole c d h e = subst IsWhole e h

point_not_whole : IsWhole 46 → ⊥
point_not_whole (inl h) = omega arith
point_not_whole (inr (inl h)) = omega arith
point_not_whole (inr (inr h)) = omega arith

e_not_point : IsPoint 101 → ⊥
e_not_point (inl h) = omega arith
e_not_point (inr (inl h)) = omega arith
e_not_point (inr (inr (inl h))) = omega arith
e_not_point (inr (inr (inr h))) = omega arith

-- a decimal number and a fraction
abbrev IsPointed : List ℕ → Type 0
IsPointed text = (whole : List ℕ) × (fraction : List ℕ) × (text ≡ whole ++ fraction) × IsSigned whole × Optionally 46 (AllDigits 10) fraction

pointed_each : (text : List ℕ) → IsPointed text → AllByRecursion IsPoint text
pointed_each text (whole, fraction, is, w, f) = subst (AllByRecursion IsPoint) (sym is) (each_append IsPoint whole fraction (each_weaker IsWhole IsPoint whole (λ c k. inr k) (signed_each whole w)) (fraction_each fraction f))

pointed : (text a r b s : List ℕ) → IsLongest IsSigned text a r → IsLongest (Optionally 46 (AllDigits 10)) r b s → IsLongest IsPointed text (a ++ b) s
pointed text a r b s one two =
    longest_then IsSigned (Optionally 46 (AllDigits 10)) IsPointed text a r b s one two (a, b, refl, one.shape, two.shape) (λ t h. h)
    (λ p more q c h k. point_not_whole (subst IsWhole k.0 (each_at IsWhole c p more (signed_each (p ++ c ∷ more) h))))

float_parts : (text : List ℕ) → IsFloat text → (p : List ℕ) × (q : List ℕ) × (text ≡ p ++ q) × IsPointed p × Optionally 101 IsSigned q
float_parts text (whole, fraction, exponent, is, w, f, e) = (whole ++ fraction, exponent, is ∙ sym (append_assoc whole fraction exponent), (whole, fraction, refl, w, f), e)

-- a decimal number, a fraction and an exponent, each the longest of what the one before leaves
pub float : (text a r b s d u : List ℕ) → IsLongest IsSigned text a r → IsLongest (Optionally 46 (AllDigits 10)) r b s → IsLongest (Optionally 101 IsSigned) s d u → IsLongest IsFloat text ((a ++ b) ++ d) u
float text a r b s d u one two three =
    longest_then IsPointed (Optionally 101 IsSigned) IsFloat text (a ++ b) s d u (pointed text a r b s one two) three (a, b, d, append_assoc a b d, one.shape, two.shape, three.shape) float_parts
    (λ p more q c h k. e_not_point (subst IsPoint k.0 (each_at IsPoint c p more (pointed_each (p ++ c ∷ more) h))))

digit_ascii : (c : ℕ) → digit_value c < 16 → c < 128
digit_ascii c h = grind (arith, nat_tests)

-- all of these are ASCII
pub digits_ascii : (b : ℕ) (xs : List ℕ) → b ≤ 16 → AllDigits b xs → AllByRecursion (λ c. c < 128) xs
digits_ascii b [] le h = tt
digits_ascii b (x ∷ xs) le h = (digit_ascii x (omega (arith, h.0)), digits_ascii b xs le h.1)

whole_ascii : (c : ℕ) → IsWhole c → c < 128
whole_ascii c (inl h) = omega arith
whole_ascii c (inr (inl h)) = omega arith
whole_ascii c (inr (inr h)) = digit_ascii c (omega (arith, h))

point_ascii : (c : ℕ) → IsPoint c → c < 128
point_ascii c (inl h) = omega arith
point_ascii c (inr h) = whole_ascii c h

pub signed_ascii : (xs : List ℕ) → IsSigned xs → AllByRecursion (λ c. c < 128) xs
signed_ascii xs h = each_weaker IsWhole (λ c. c < 128) xs whole_ascii (signed_each xs h)

exponent_ascii : (xs : List ℕ) → Optionally 101 IsSigned xs → AllByRecursion (λ c. c < 128) xs
exponent_ascii [] h = tt
exponent_ascii (x ∷ xs) h = (omega (arith, h.0), signed_ascii xs h.1)

pub float_ascii : (xs : List ℕ) → IsFloat xs → AllByRecursion (λ c. c < 128) xs
float_ascii xs h =
    let cut = float_parts xs h in
    subst (AllByRecursion (λ c. c < 128)) (sym cut.2) (each_append (λ c. c < 128) cut.0 cut.1 (each_weaker IsPoint (λ c. c < 128) cut.0 point_ascii (pointed_each cut.0 cut.3)) (exponent_ascii cut.1 cut.4))

pub prefixed_ascii : (xs : List ℕ) → IsPrefixed xs → AllByRecursion (λ c. c < 128) xs
prefixed_ascii xs h = by_form (form_of xs h) where
  by_form : Form xs → AllByRecursion (λ c. c < 128) xs
  by_form (bare each) = digits_ascii 16 xs (omega arith) each
  by_form (with_x ds e each) = subst (AllByRecursion (λ c. c < 128)) (sym e) (omega arith, digits_ascii 16 ds (omega arith) each)
  by_form (with_0x ds e each) = subst (AllByRecursion (λ c. c < 128)) (sym e) (omega arith, (omega arith, digits_ascii 16 ds (omega arith) each))

pub number_ascii : (notation : Notation) (xs : List ℕ) → IsNumber notation xs → AllByRecursion (λ c. c < 128) xs
number_ascii Decimal xs h = signed_ascii xs h
number_ascii Hexadecimal xs h = prefixed_ascii xs h
number_ascii Float xs h = float_ascii xs h
