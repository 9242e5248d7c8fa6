-- Eight digits at once.
use Rattle.std.proofs.Common.{◌≡◌, ◌<◌, ◌^◌, ◌+◌, ◌-◌, ◌*◌, ◌%◌, ◌&&◌, ◌||◌, ℕ, Bool, true, false, cond, eqb, leb, ltb, List, [], ◌∷◌, length, replicate, map, refl, sym, ap, ap₂, subst, ◌∙◌, arith, Fits, w32, w8}
use Rattle.std.proofs.lemmas.Bool.{agree_below, agree_below_at, eqb-true, leb-true, ltb-true}
use Rattle.std.proofs.lemmas.Simd.{map-map, mask_l-mod, zip2_splat, splat_is_map, zip2_of_maps}
use Rattle.std.proofs.lemmas.List.{length-map}
use Rattle.std.specs.Char.{digit_value}
use Rattle.std.specs.Str.Parse.{AllDigits, digits_value}
use Rattle.std.proofs.lemmas.Int.Digits.{digits_value-lt}
use lib.Bits.{bit_and}
use lib.Lanes.{zip2, Each1, Each2, sum_l, products, mask_l, sel_l, top}
use Rattle.numerals.specs.Numeral.{place_sum}
use Rattle.numerals.specs.Laws.{AllOfCase}
use Rattle.columns.specs.Inner.Shapes.{first_letter, AreDigits, IsDigit}
use Rattle.columns.proofs.Digits.{figure}
use Rattle.columns.proofs.Fields.{digits_value-text_value}
use Rattle.columns.proofs.Tables.{told, told_digit}

pub products_fit : (xs ys : List ℕ) → sum_l (products xs ys) < 2 ^ 32 → Each2 (λ a b. Fits w32 (a * b)) xs ys
products_fit [] ys h = tt
products_fit (x ∷ xs) [] h = tt
products_fit (x ∷ xs) (y ∷ ys) h = (record { fits = omega (arith, h) }, products_fit xs ys (omega (arith, h)))

pub as_they_are : (xs : List ℕ) → map (λ x. x) xs ≡ xs
as_they_are [] = refl
as_they_are (x ∷ xs) = ap (λ (r : List ℕ). x ∷ r) (as_they_are xs)

pub small_as_they_are : (xs ys : List ℕ) → sum_l (products xs ys) < 2 ^ 32 → sum_l (products (map (λ x. x) xs) ys) < 2 ^ 32
small_as_they_are xs ys h = omega (arith, h, ap (λ (v : List ℕ). sum_l (products v ys)) (as_they_are xs))

-- where the mask of a load is empty, each of its bytes passes

unset : (b : Bool) (n : ℕ) → cond b 1 0 + 2 * n ≡ 0 → (b ≡ false) × (n ≡ 0)
unset true n e = absurd (omega (arith, e))
unset false n e = (refl, omega (arith, e))

none_set : (p : ℕ → Bool) (v : List ℕ) → mask_l (map p v) ≡ 0 → Each1 (λ c. p c ≡ false) v
none_set p [] e = tt
none_set p (c ∷ cs) e = ((unset (p c) (mask_l (map p cs)) e).0, none_set p cs (unset (p c) (mask_l (map p cs)) e).1)

good_by : (a b : Bool) → (a || b) ≡ true → a ≡ false → b ≡ true
good_by a b either none = subst (λ x. (x || b) ≡ true) none either

each_good : (good stops : ℕ → Bool) (v : List ℕ) → Each1 (Fits w8) v → Each1 (λ c. stops c ≡ false) v → agree_below (λ x. stops x || good x) (λ _. true) 256 ≡ true → Each1 (λ c. good c ≡ true) v
each_good good stops [] fits passed all = tt
each_good good stops (c ∷ cs) fits passed all =
    (good_by (stops c) (good c) (agree_below_at (λ x. stops x || good x) (λ _. true) 256 c all fits.0.fits) passed.0, each_good good stops cs fits.1 passed.1 all)

pub all_good : (good : ℕ → Bool) (g : ℕ → ℕ) (v : List ℕ) {z : List ℕ} → z ≡ map g v → length v ≡ 8 → Each1 (Fits w8) v → mask_l (map (top 7) z) % 2 ^ 64 ≡ 0 → agree_below (λ x. top 7 (g x) || good x) (λ _. true) 256 ≡ true → Each1 (λ c. good c ≡ true) v
all_good good g v lanes long fits none all =
    let stops : ℕ → Bool = λ c. top 7 (g c) in
    let mask = ap (λ l. mask_l l % 2 ^ 64) (ap (map (top 7)) lanes ∙ map-map (top 7) g v) ∙ mask_l-mod (map stops v) 64 (omega (arith, length-map v stops, long)) in
    each_good good stops v fits (none_set stops v (sym mask ∙ none)) all

-- the lanes are the digits

abbrev pub is_decimal : (ℕ → ℕ) → ℕ → Bool
is_decimal f c = leb 48 c && (leb c 57 && eqb (f c) (c - 48))

abbrev pub is_hexadecimal : Bool → (ℕ → ℕ) → ℕ → Bool
is_hexadecimal upper f c = ltb (told upper c) 16 && eqb (f c) (told upper c)

both : (a b : Bool) → (a && b) ≡ true → (a ≡ true) × (b ≡ true)
both true true e = (refl, refl)
both true false e = absurd cc
both false b e = absurd cc

decimal_digit : (f : ℕ → ℕ) (c : ℕ) → is_decimal f c ≡ true → IsDigit 10 false c (f c)
decimal_digit f c is =
    let low = leb-true 48 c (both (leb 48 c) _ is).0 in
    let rest = both (leb c 57) (eqb (f c) (c - 48)) (both (leb 48 c) _ is).1 in
    let high = leb-true c 57 rest.0 in
    let value = eqb-true (f c) (c - 48) rest.1 in
    figure 10 false c (f c) low high value (omega (arith, value, low, high))

pub decimal_digits : (f : ℕ → ℕ) (v : List ℕ) → Each1 (λ c. is_decimal f c ≡ true) v → Each1 (λ c. IsDigit 10 false c (f c)) v
decimal_digits f [] all = tt
decimal_digits f (c ∷ cs) all = (decimal_digit f c all.0, decimal_digits f cs all.1)

hexadecimal_digit : (upper : Bool) (f : ℕ → ℕ) (c : ℕ) → is_hexadecimal upper f c ≡ true → IsDigit 16 upper c (f c)
hexadecimal_digit upper f c is =
    let parts = both (ltb (told upper c) 16) (eqb (f c) (told upper c)) is in
    subst (IsDigit 16 upper c) (sym (eqb-true (f c) (told upper c) parts.1)) (told_digit upper c (ltb-true (told upper c) 16 parts.0))

pub hexadecimal_digits : (upper : Bool) (f : ℕ → ℕ) (v : List ℕ) → Each1 (λ c. is_hexadecimal upper f c ≡ true) v → Each1 (λ c. IsDigit 16 upper c (f c)) v
hexadecimal_digits upper f [] all = tt
hexadecimal_digits upper f (c ∷ cs) all = (hexadecimal_digit upper f c all.0, hexadecimal_digits upper f cs all.1)

-- what they stand for

abbrev pub decimal_places : List ℕ
decimal_places = 10000000 ∷ 1000000 ∷ 100000 ∷ 10000 ∷ 1000 ∷ 100 ∷ 10 ∷ 1 ∷ []

abbrev pub hexadecimal_places : List ℕ
hexadecimal_places = 268435456 ∷ 16777216 ∷ 1048576 ∷ 65536 ∷ 4096 ∷ 256 ∷ 16 ∷ 1 ∷ []

decimal_sum : (ds : List ℕ) → length ds ≡ 8 → place_sum 10 ds ≡ sum_l (products ds decimal_places)
decimal_sum (a ∷ b ∷ c ∷ d ∷ e ∷ f ∷ g ∷ h ∷ []) long = refl
decimal_sum (a ∷ b ∷ c ∷ d ∷ e ∷ f ∷ g ∷ h ∷ i ∷ ds) long = absurd (omega (arith, long))
decimal_sum (a ∷ b ∷ c ∷ d ∷ e ∷ f ∷ g ∷ []) long = absurd (omega (arith, long))
decimal_sum (a ∷ b ∷ c ∷ d ∷ e ∷ f ∷ []) long = absurd (omega (arith, long))
decimal_sum (a ∷ b ∷ c ∷ d ∷ e ∷ []) long = absurd (omega (arith, long))
decimal_sum (a ∷ b ∷ c ∷ d ∷ []) long = absurd (omega (arith, long))
decimal_sum (a ∷ b ∷ c ∷ []) long = absurd (omega (arith, long))
decimal_sum (a ∷ b ∷ []) long = absurd (omega (arith, long))
decimal_sum (a ∷ []) long = absurd (omega (arith, long))
decimal_sum [] long = absurd (omega (arith, long))

hexadecimal_sum : (ds : List ℕ) → length ds ≡ 8 → place_sum 16 ds ≡ sum_l (products ds hexadecimal_places)
hexadecimal_sum (a ∷ b ∷ c ∷ d ∷ e ∷ f ∷ g ∷ h ∷ []) long = refl
hexadecimal_sum (a ∷ b ∷ c ∷ d ∷ e ∷ f ∷ g ∷ h ∷ i ∷ ds) long = absurd (omega (arith, long))
hexadecimal_sum (a ∷ b ∷ c ∷ d ∷ e ∷ f ∷ g ∷ []) long = absurd (omega (arith, long))
hexadecimal_sum (a ∷ b ∷ c ∷ d ∷ e ∷ f ∷ []) long = absurd (omega (arith, long))
hexadecimal_sum (a ∷ b ∷ c ∷ d ∷ e ∷ []) long = absurd (omega (arith, long))
hexadecimal_sum (a ∷ b ∷ c ∷ d ∷ []) long = absurd (omega (arith, long))
hexadecimal_sum (a ∷ b ∷ c ∷ []) long = absurd (omega (arith, long))
hexadecimal_sum (a ∷ b ∷ []) long = absurd (omega (arith, long))
hexadecimal_sum (a ∷ []) long = absurd (omega (arith, long))
hexadecimal_sum [] long = absurd (omega (arith, long))

are_digits : (base : ℕ) (upper : Bool) (f : ℕ → ℕ) (v : List ℕ) → Each1 (λ c. IsDigit base upper c (f c)) v → AllDigits base v × (AllOfCase upper v × (map digit_value v ≡ map f v))
are_digits base upper f [] all = (tt, (tt, refl))
are_digits base upper f (c ∷ cs) all =
    let later = are_digits base upper f cs all.1 in
    ((subst (λ k. k < base) (sym all.0.value) all.0.small, later.0), ((all.0.letter, later.1.0), ap₂ (λ (d : ℕ) (ds : List ℕ). d ∷ ds) all.0.value later.1.1))

eight_are : (base : ℕ) (upper : Bool) (f : ℕ → ℕ) (v : List ℕ) (n : ℕ) → Each1 (λ c. IsDigit base upper c (f c)) v → place_sum base (map f v) ≡ n → AreDigits base upper v n
eight_are base upper f v n all sum =
    let digits = are_digits base upper f v all in
    record { digits = digits.0; letters = digits.1.0; value = digits_value-text_value base v ∙ ap (place_sum base) digits.1.1 ∙ sum }

decimal_eight : (f : ℕ → ℕ) (v : List ℕ) {z : List ℕ} → z ≡ map f v → length v ≡ 8 → Each1 (λ c. is_decimal f c ≡ true) v → AreDigits 10 false v (sum_l (products z decimal_places))
decimal_eight f v lanes long all =
    eight_are 10 false f v _ (decimal_digits f v all) (decimal_sum (map f v) (length-map v f ∙ long) ∙ ap (λ (ds : List ℕ). sum_l (products ds decimal_places)) (sym lanes))

hexadecimal_eight : (upper : Bool) (f : ℕ → ℕ) (v : List ℕ) {z : List ℕ} → z ≡ map f v → length v ≡ 8 → Each1 (λ c. is_hexadecimal upper f c ≡ true) v → AreDigits 16 upper v (sum_l (products z hexadecimal_places))
hexadecimal_eight upper f v lanes long all =
    eight_are 16 upper f v _ (hexadecimal_digits upper f v all) (hexadecimal_sum (map f v) (length-map v f ∙ long) ∙ ap (λ (ds : List ℕ). sum_l (products ds hexadecimal_places)) (sym lanes))

pub decimal_small : (v : List ℕ) (n : ℕ) → length v ≡ 8 → AreDigits 10 false v n → n < 2 ^ 32
decimal_small v n long is =
    let less : digits_value 10 v < 10 ^ 8 = subst (λ k. digits_value 10 v < 10 ^ k) long (digits_value-lt 10 v is.digits) in
    omega (arith, less, is.value)

pub hexadecimal_small : (upper : Bool) (v : List ℕ) (n : ℕ) → length v ≡ 8 → AreDigits 16 upper v n → n < 2 ^ 32
hexadecimal_small upper v n long is =
    let less : digits_value 16 v < 16 ^ 8 = subst (λ k. digits_value 16 v < 16 ^ k) long (digits_value-lt 16 v is.digits) in
    omega (arith, less, is.value)

-- the lanes, as the code computes them

abbrev pub less : ℕ → ℕ → ℕ
less a b = (a + (256 - b)) % 256

abbrev pub plus : ℕ → ℕ → ℕ
plus a b = (a + b) % 256

abbrev pub at_most : ℕ → ℕ → ℕ
at_most a b = cond (leb a b) 255 0

abbrev pub below : ℕ → ℕ → ℕ
below a b = cond (ltb a b) 255 0

abbrev pub figure_lane : ℕ → ℕ
figure_lane c = less c 48

abbrev pub other_lane : ℕ → ℕ
other_lane c = at_most 10 (figure_lane c)

abbrev pub neither_lane : ℕ → ℕ → ℕ
neither_lane letter c = bit_and (at_most 10 (figure_lane c)) (at_most 6 (less c letter))

abbrev pub is_figure_lane : ℕ → Bool
is_figure_lane c = top 7 (below (figure_lane c) 10)

abbrev pub digit_lane : ℕ → ℕ → ℕ
digit_lane letter c = cond (is_figure_lane c) (figure_lane c) (plus (less c letter) 10)

decimal_all : (v : List ℕ) {z : List ℕ} → length v ≡ 8 → Each1 (Fits w8) v → z ≡ map other_lane v → mask_l (map (top 7) z) % 2 ^ 64 ≡ 0 → Each1 (λ c. is_decimal figure_lane c ≡ true) v
decimal_all v long fits lanes none = all_good (is_decimal figure_lane) other_lane v lanes long fits none refl

letter_bytes : (upper : Bool) → agree_below (λ x. top 7 (neither_lane (first_letter upper) x) || is_hexadecimal upper (digit_lane (first_letter upper)) x) (λ _. true) 256 ≡ true
letter_bytes false = refl
letter_bytes true = refl

hexadecimal_all : (upper : Bool) (letter : ℕ) → letter ≡ first_letter upper → (v : List ℕ) {z : List ℕ} → length v ≡ 8 → Each1 (Fits w8) v → z ≡ map (neither_lane letter) v → mask_l (map (top 7) z) % 2 ^ 64 ≡ 0 → Each1 (λ c. is_hexadecimal upper (digit_lane letter) c ≡ true) v
hexadecimal_all upper letter is v long fits lanes none =
    all_good (is_hexadecimal upper (digit_lane letter)) (neither_lane letter) v lanes long fits none
    (subst (λ l. agree_below (λ x. top 7 (neither_lane l x) || is_hexadecimal upper (digit_lane l) x) (λ _. true) 256 ≡ true) (sym is) (letter_bytes upper))

-- a choice lane by lane

chosen_of : (p : ℕ → Bool) (f g : ℕ → ℕ) (v : List ℕ) → sel_l (map p v) (map f v) (map g v) ≡ map (λ c. cond (p c) (f c) (g c)) v
chosen_of p f g [] = refl
chosen_of p f g (c ∷ cs) = ap (λ (r : List ℕ). cond (p c) (f c) (g c) ∷ r) (chosen_of p f g cs)

chosen : (p : ℕ → Bool) (f g : ℕ → ℕ) (v : List ℕ) {ms : List Bool} {a b : List ℕ} → ms ≡ map p v → a ≡ map f v → b ≡ map g v → sel_l ms a b ≡ map (λ c. cond (p c) (f c) (g c)) v
chosen p f g v ms a b = (λ i. sel_l (ms i) (a i) (b i)) ∙ chosen_of p f g v

-- nothing is read

pub no_digits : (base : ℕ) (upper : Bool) → AreDigits base upper [] 0
no_digits base upper = record { digits = tt; letters = tt; value = refl }

-- from the mask to the number

pub decimal_of_lanes : (v : List ℕ) → length v ≡ 8 → Each1 (Fits w8) v
    → mask_l (map (top 7) (zip2 at_most (replicate 8 10) (zip2 less v (replicate 8 48)))) % 2 ^ 64 ≡ 0
    → AreDigits 10 false v (sum_l (products (zip2 less v (replicate 8 48)) decimal_places))
decimal_of_lanes v long fits none =
    let figures : zip2 less v (replicate 8 48) ≡ map figure_lane v = zip2_splat less v 8 48 long in
    let others : zip2 at_most (replicate 8 10) (zip2 less v (replicate 8 48)) ≡ map other_lane v = zip2_of_maps at_most (λ _. 10) figure_lane v (splat_is_map v 8 10 long) figures in
    decimal_eight figure_lane v figures long (decimal_all v long fits others none)

pub hexadecimal_of_lanes : (upper : Bool) (letter : ℕ) → letter ≡ first_letter upper → (v : List ℕ) → length v ≡ 8 → Each1 (Fits w8) v
    → mask_l (map (top 7) (zip2 bit_and (zip2 at_most (replicate 8 10) (zip2 less v (replicate 8 48))) (zip2 at_most (replicate 8 6) (zip2 less v (replicate 8 letter))))) % 2 ^ 64 ≡ 0
    → AreDigits 16 upper v (sum_l (products (sel_l (map (top 7) (zip2 below (zip2 less v (replicate 8 48)) (replicate 8 10))) (zip2 less v (replicate 8 48)) (zip2 plus (zip2 less v (replicate 8 letter)) (replicate 8 10))) hexadecimal_places))
hexadecimal_of_lanes upper letter is v long fits none =
    let tens : replicate 8 10 ≡ map (λ _. 10) v = splat_is_map v 8 10 long in
    let figures : zip2 less v (replicate 8 48) ≡ map figure_lane v = zip2_splat less v 8 48 long in
    let letters : zip2 less v (replicate 8 letter) ≡ map (λ c. less c letter) v = zip2_splat less v 8 letter long in
    let others : zip2 bit_and (zip2 at_most (replicate 8 10) (zip2 less v (replicate 8 48))) (zip2 at_most (replicate 8 6) (zip2 less v (replicate 8 letter))) ≡ map (neither_lane letter) v =
    zip2_of_maps bit_and other_lane (λ c. at_most 6 (less c letter)) v (zip2_of_maps at_most (λ _. 10) figure_lane v tens figures) (zip2_of_maps at_most (λ _. 6) (λ c. less c letter) v (splat_is_map v 8 6 long) letters) in
    let chosen_by : map (top 7) (zip2 below (zip2 less v (replicate 8 48)) (replicate 8 10)) ≡ map is_figure_lane v =
    ap (map (top 7)) (zip2_of_maps below figure_lane (λ _. 10) v figures tens) ∙ map-map (top 7) (λ c. below (figure_lane c) 10) v in
    hexadecimal_eight upper (digit_lane letter) v
    (chosen is_figure_lane figure_lane (λ c. plus (less c letter) 10) v chosen_by figures (zip2_of_maps plus (λ c. less c letter) (λ _. 10) v letters tens))
    long (hexadecimal_all upper letter is v long fits others none)
