-- Each format gives a list of tokens over each input: every shape has a longest front.
use Rattle.std.proofs.Common.{◌≡◌, ◌≢◌, ◌⊎◌, ◌<◌, ◌≤◌, ℕ, Bool, true, false, not, List, [], ◌∷◌, ◌++◌, length, take, drop, Option, Some, None, Ok, Err, sym, ap, subst, refl, inl, inr, ◌∙◌, arith}
use Rattle.std.specs.List.{AllByRecursion}
use Rattle.std.specs.Char.{digit_value}
use Rattle.std.specs.Str.Parse.{AllDigits}
use Rattle.std.proofs.lemmas.Bool.{cases_Bool, cases_eq, cases_lt}
use Rattle.scan_fmt.specs.Grammar.{Run, Until, Solid, Among, Notation, Decimal, Hexadecimal, Float, Shape, Characters, Number, Directive, Exactly, Field, Expression, AtEnd, first, is_blank, after_blanks}
use Rattle.scan_fmt.specs.Sets.{is_listed}
use Rattle.scan_fmt.specs.Scanned.{IsLongest, Optionally, IsSigned, IsNumber, Suits, MayTake, Token, Scanned, Passes, ended, refused, passed, Takes, tokens_of}
use Rattle.scan_fmt.specs.Inner.Parts.{Outcome, with_token, Refuses}
use Rattle.scan_fmt.specs.Inner.Found.{IsPrefixed, IsFloat, begins_0x}
use Rattle.scan_fmt.proofs.Longest.{longest_stops, longest_cons}
use Rattle.scan_fmt.proofs.Digits.{signed_plain, optional_none, float, begins_0x_is, prefixed_x_cons, prefixed_0x_cons, prefixed_bare}
use Rattle.scan_fmt.proofs.Spelled.{heads}
use Rattle.scan_fmt.proofs.Runs.{Within, limited}
use Rattle.scan_fmt.proofs.Cutting.{cuts_some}

-- a longest front
record Front (P : List ℕ → Type 0) (text : List ℕ) : Type 0 where
  taken : List ℕ
  rest : List ℕ
  longest : IsLongest P text taken rest

-- a run of characters of which each can be judged
run_found : (S : ℕ → Type 0) → ((c : ℕ) → S c ⊎ (S c → ⊥)) → (text : List ℕ) → Front (AllByRecursion S) text
run_found S judge [] = record { taken = []; rest = []; longest = longest_stops (AllByRecursion S) [] [] [] refl tt (λ c more at can. let bad : None ≡ Some c = at in cc) }
run_found S judge (x ∷ xs) = elim (judge x) [
  | inl h ↦ (let there = run_found S judge xs in record { taken = x ∷ there.taken; rest = there.rest; longest = longest_cons (AllByRecursion S) (AllByRecursion S) x xs there.taken there.rest there.longest (h, there.longest.shape) (λ other can. can.1) })
  | inr n ↦ record { taken = []; rest = x ∷ xs; longest = longest_stops (AllByRecursion S) (x ∷ xs) [] (x ∷ xs) refl tt (λ c more at can. let same : x ≡ c = (let k : Some x ≡ Some c = at in cc) in n (subst S (sym same) can.0)) }
]

digits_found : (b : ℕ) (text : List ℕ) → Front (AllDigits b) text
digits_found b [] = record { taken = []; rest = []; longest = longest_stops (AllDigits b) [] [] [] refl tt (λ c more at can. let bad : None ≡ Some c = at in cc) }
digits_found b (x ∷ xs) = elim (cases_lt (digit_value x) b) [
  | inl h ↦ (let there = digits_found b xs in record { taken = x ∷ there.taken; rest = there.rest; longest = longest_cons (AllDigits b) (AllDigits b) x xs there.taken there.rest there.longest (h, there.longest.shape) (λ other can. can.1) })
  | inr high ↦ record { taken = []; rest = x ∷ xs; longest = longest_stops (AllDigits b) (x ∷ xs) [] (x ∷ xs) refl tt (λ c more at can. let same : x ≡ c = (let k : Some x ≡ Some c = at in cc) in omega (arith, can.0, subst (λ y. b ≤ digit_value y) same high)) }
]

some_same : (x c : ℕ) → Some x ≡ Some c → x ≡ c
some_same x c e = cc

signed_after : (c : ℕ) (cs : List ℕ) → (c ≡ 43) ⊎ ((c ≡ 45) ⊎ (digit_value c < 10)) → Front IsSigned (c ∷ cs)
signed_after c cs head = let there = digits_found 10 cs in record { taken = c ∷ there.taken; rest = there.rest; longest = longest_cons (AllDigits 10) IsSigned c cs there.taken there.rest there.longest (head, there.longest.shape) (λ other can. can.1) }

signed_found : (text : List ℕ) → Front IsSigned text
signed_found [] = record { taken = []; rest = []; longest = longest_stops IsSigned [] [] [] refl tt (λ c more at can. let bad : None ≡ Some c = at in cc) }
signed_found (c ∷ cs) = elim (cases_eq c 43) [
  | inl e ↦ signed_after c cs (inl e)
  | inr plus ↦ elim (cases_eq c 45) [
    | inl e ↦ signed_after c cs (inr (inl e))
    | inr minus ↦ (let there = digits_found 10 (c ∷ cs) in record { taken = there.taken; rest = there.rest; longest = signed_plain (c ∷ cs) there.taken there.rest (λ e. plus (some_same c 43 e)) (λ e. minus (some_same c 45 e)) there.longest })
  ]
]

optional_found : (P : List ℕ → Type 0) → ((text : List ℕ) → Front P text) → (c : ℕ) (text : List ℕ) → Front (Optionally c P) text
optional_found P find c [] = record { taken = []; rest = []; longest = optional_none P c [] (λ e. cc) }
optional_found P find c (x ∷ xs) = elim (cases_eq x c) [
  | inl e ↦ (let there = find xs in record { taken = x ∷ there.taken; rest = there.rest; longest = longest_cons P (Optionally c P) x xs there.taken there.rest there.longest (e, there.longest.shape) (λ other can. can.1) })
  | inr n ↦ record { taken = []; rest = x ∷ xs; longest = optional_none P c (x ∷ xs) (λ e. n (some_same x c e)) }
]

float_found : (text : List ℕ) → Front IsFloat text
float_found text =
    let whole = signed_found text in
    let fraction = optional_found (AllDigits 10) (digits_found 10) 46 whole.rest in
    let exponent = optional_found IsSigned signed_found 101 fraction.rest in
    record { taken = (whole.taken ++ fraction.taken) ++ exponent.taken; rest = exponent.rest; longest = float text whole.taken whole.rest fraction.taken fraction.rest exponent.taken exponent.rest whole.longest fraction.longest exponent.longest }

prefixed_0x_found : (text rest : List ℕ) → text ≡ 48 ∷ 120 ∷ rest → Front IsPrefixed text
prefixed_0x_found text rest e = let there = digits_found 16 rest in
    record { taken = 48 ∷ 120 ∷ there.taken; rest = there.rest; longest = subst (λ (t : List ℕ). IsLongest IsPrefixed t (48 ∷ 120 ∷ there.taken) there.rest) (sym e) (prefixed_0x_cons rest there.taken there.rest there.longest) }

prefixed_bare_found : (text : List ℕ) → begins_0x text ≡ false → first text ≢ Some 120 → Front IsPrefixed text
prefixed_bare_found text no_0x no_x = let there = digits_found 16 text in record { taken = there.taken; rest = there.rest; longest = prefixed_bare text there.taken there.rest no_0x no_x there.longest }

prefixed_plain : (text : List ℕ) → begins_0x text ≡ false → Front IsPrefixed text
prefixed_plain [] no_0x = prefixed_bare_found [] no_0x (λ e. cc)
prefixed_plain (x ∷ xs) no_0x = elim (cases_eq x 120) [
  | inl e ↦ (let there = digits_found 16 xs in record { taken = x ∷ there.taken; rest = there.rest; longest = prefixed_x_cons x xs there.taken there.rest e there.longest })
  | inr n ↦ prefixed_bare_found (x ∷ xs) no_0x (λ e. n (some_same x 120 e))
]

prefixed_found : (text : List ℕ) → Front IsPrefixed text
prefixed_found text = elim (cases_Bool (begins_0x text)) [ inl e ↦ (let front = begins_0x_is text e in prefixed_0x_found text front.0 front.1) | inr e ↦ prefixed_plain text e ]

within_found : (S : List ℕ → Type 0) (limit : Option ℕ) (text : List ℕ) → ((t : List ℕ) → Front S t) → Front (λ t. S t × Within limit t) text
within_found S None text find = let there = find text in
    record { taken = there.taken; rest = there.rest; longest = record { whole = there.longest.whole; shape = (there.longest.shape, tt); longest = λ other more e can. there.longest.longest other more e can.0 } }
within_found S (Some n) text find = let there = find (take n text) in record { taken = there.taken; rest = there.rest ++ drop n text; longest = limited S n text there.taken there.rest there.longest }

judge_until : (stop : Option ℕ) (c : ℕ) → Suits (Until stop) c ⊎ (Suits (Until stop) c → ⊥)
judge_until stop c = elim (cases_Bool (is_blank c)) [
  | inl blank ↦ inr (λ h. let bad : true ≡ false = sym blank ∙ h.0 in cc)
  | inr solid ↦ by_stop stop solid
] where
  by_stop : (stop : Option ℕ) → is_blank c ≡ false → Suits (Until stop) c ⊎ (Suits (Until stop) c → ⊥)
  by_stop None solid = inl (solid, (λ e. cc))
  by_stop (Some d) solid = elim (cases_eq c d) [ inl e ↦ inr (λ h. h.1 (ap Some e)) | inr n ↦ inl (solid, (λ e. n (some_same c d e))) ]

judge_test : (test : ℕ → Bool) (want : Bool) (c : ℕ) → (test c ≡ want) ⊎ (test c ≡ want → ⊥)
judge_test test true c = elim (cases_Bool (test c)) [ inl e ↦ inl e | inr e ↦ inr (λ h. let bad : true ≡ false = sym h ∙ e in cc) ]
judge_test test false c = elim (cases_Bool (test c)) [ inl e ↦ inr (λ h. let bad : true ≡ false = sym e ∙ h in cc) | inr e ↦ inl e ]

judge : (run : Run) (c : ℕ) → Suits run c ⊎ (Suits run c → ⊥)
judge (Until stop) c = judge_until stop c
judge Solid c = judge_test is_blank false c
judge (Among inverted listing) c = judge_test (is_listed listing) (not inverted) c

number_found : (notation : Notation) (text : List ℕ) → Front (IsNumber notation) text
number_found Decimal text = signed_found text
number_found Hexadecimal text = prefixed_found text
number_found Float text = float_found text

found : (s : Shape) (text : List ℕ) → Front (MayTake s) text
found (Characters run) text = run_found (Suits run) (judge run) text
found (Number notation limit) text = within_found (IsNumber notation) limit text (number_found notation)

-- a directive refuses the input or passes it
Decided : Directive → List ℕ → Type 0
Decided d input = Refuses d input ⊎ ((token : Option Token) × (rest : List ℕ) × Passes d input token rest)

decided : (d : Directive) (input : List ℕ) → Decided d input
unfolding Decided
decided (Exactly c) [] = inl (λ token rest h. absurd (omega (arith, ap length h.0)))
decided (Exactly c) (x ∷ xs) = elim (cases_eq x c) [ inl e ↦ inr (None, xs, (ap (λ y. y ∷ xs) e, refl)) | inr n ↦ inl (λ token rest h. n (heads x c xs rest h.0).0) ]
decided (Field stored s) input = let there = found s input in inr (_, there.rest, (there.taken, there.longest, refl))
decided (Expression stored pattern) input = inr (_, _, (refl, refl))
decided AtEnd input = inl (λ token rest h. h)

is_end : (text : List ℕ) → (text ≡ []) ⊎ (text ≢ [])
is_end [] = inl refl
is_end (x ∷ xs) = inr (λ e. cc)

takes_some : (ds : List Directive) (input : List ℕ) → (out : Outcome) × Takes ds input out
unfolding Decided
takes_some [] input = (Ok [], refl)
takes_some (d ∷ ds) input = elim (is_end (after_blanks input)) [
  | inl none ↦ (Ok [], ended none refl)
  | inr some ↦ elim (decided d (after_blanks input)) [
    | inl refuses ↦ (Err (after_blanks input), refused some refuses refl)
    | inr (token, rest, passes) ↦ (let more = takes_some ds rest in (with_token token more.0, passed some token rest more.0 passes more.1 refl))
  ]
]

pub some_answer : (input format : List ℕ) → (tokens : List Token) × Scanned input format tokens
some_answer input format =
    let cut = cuts_some format in
    let out = takes_some cut.0 input in
    (tokens_of out.0, record { directives = cut.0; out = out.0; cut = cut.1; takes = out.1; tokens_are = refl })
