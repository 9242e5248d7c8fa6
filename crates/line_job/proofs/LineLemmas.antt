-- Lemmas on lines: a first one, and what comes after it.
use Rattle.std.proofs.Common.{◌≡◌, ◌≢◌, ◌+◌, ◌<◌, ◌≤◌, ◌++◌, ◌⊎◌, ◌==◌, ◌||◌, ℕ, Bool, true, false, not, cond, if◌then◌else◌, nat_le, List, [], ◌∷◌, length, take, drop, ap, sym, ◌∙◌, subst, arith, refl, suc, zero, inl, inr, ⊎_elim, append_assoc, append-nil, length-append}
use Rattle.std.specs.Str.{IsUtf8}
use Rattle.std.proofs.lemmas.Bool.{cases_order}
use Rattle.std.proofs.lemmas.Bool.Decides.{nat_tests}
use Rattle.std.proofs.lemmas.List.{take_all, take-append-le, take-append-drop}
use Rattle.std.proofs.Math.Seq.{take-append-add}
use Rattle.whiteread.specs.Lines.{lines_of, without_feed, has_feed, up_to_last_feed, HasNoFeed, IsWhole, IsUnended, IsFirstLine}
use Rattle.whiteread.specs.Lines.Laws.{first_line}
use Rattle.line_job.specs.Reached.{reaches_end, ended_lines, reached_lines}
use Rattle.line_job.specs.Inner.NextLine.{IsOpen}

-- line feeds

or_false : (a b : Bool) → a || b ≡ false → (a ≡ false) × (b ≡ false)
or_false true b e = absurd (cc)
or_false false b e = (refl, e)

feed_first : (byte : ℕ) → not (byte == 10) ≡ true → (byte == 10) ≡ false
feed_first byte h = grind (arith, nat_tests)

pub no_feed : (bytes : List ℕ) → HasNoFeed bytes → has_feed bytes ≡ false
no_feed [] h = refl
no_feed (b ∷ bs) h =
    let first : (b == 10) ≡ false = feed_first b (h 0 0 (omega arith)) in
    let rest : has_feed bs ≡ false = no_feed bs (λ k d lt. h (suc k) d (omega arith)) in
    rw (first, rest) refl

lines_whole : (text after : List ℕ) → has_feed text ≡ false → lines_of (text ++ 10 ∷ after) ≡ text ∷ lines_of after
lines_whole [] after h = refl
lines_whole (b ∷ text) after h =
    let parts = or_false (b == 10) (has_feed text) h in
    rw (parts.0, lines_whole text after parts.1) refl

pub without_whole : (text : List ℕ) → without_feed (text ++ 10 ∷ []) ≡ text
without_whole [] = refl
without_whole (b ∷ []) = refl
without_whole (b ∷ c ∷ text) = ap (λ (t : List ℕ). b ∷ t) (without_whole (c ∷ text))

without_open : (line : List ℕ) → has_feed line ≡ false → without_feed line ≡ line
without_open [] h = refl
without_open (b ∷ []) h = let parts = or_false (b == 10) false h in rw parts.0 refl
without_open (b ∷ c ∷ line) h =
    let parts = or_false (b == 10) (has_feed (c ∷ line)) h in
    ap (λ (t : List ℕ). b ∷ t) (without_open (c ∷ line) parts.1)

pub without_none : (bytes : List ℕ) → ((front : List ℕ) → bytes ≢ front ++ (10 ∷ [])) → without_feed bytes ≡ bytes
without_none [] h = refl
without_none (b ∷ []) h = grind (arith, nat_tests, h [])
without_none (b ∷ c ∷ bytes) h = ap (λ (t : List ℕ). b ∷ t) (without_none (c ∷ bytes) (λ front e. h (b ∷ front) (ap (λ (t : List ℕ). b ∷ t) e)))

or_true : (a b : Bool) → b ≡ true → a || b ≡ true
or_true true b e = refl
or_true false b e = e

feed_after : (text after : List ℕ) → has_feed (text ++ 10 ∷ after) ≡ true
feed_after [] after = refl
feed_after (b ∷ text) after = or_true (b == 10) (has_feed (text ++ 10 ∷ after)) (feed_after text after)

up_whole : (text after : List ℕ) → up_to_last_feed (text ++ 10 ∷ after) ≡ text ++ 10 ∷ up_to_last_feed after
up_whole [] after = refl
up_whole (b ∷ text) after =
    let feed : has_feed (b ∷ (text ++ 10 ∷ after)) ≡ true = feed_after (b ∷ text) after in
    let rest = up_whole text after in
    ap (λ (t : Bool). cond t (b ∷ up_to_last_feed (text ++ 10 ∷ after)) []) feed ∙ ap (λ (t : List ℕ). b ∷ t) rest

up_none : (bytes : List ℕ) → has_feed bytes ≡ false → up_to_last_feed bytes ≡ []
up_none [] h = refl
up_none (b ∷ bytes) h = ap (λ (t : Bool). cond t (b ∷ up_to_last_feed bytes) []) h

-- a first line

pub lines_first : (line after : List ℕ) → IsFirstLine line after → lines_of (line ++ after) ≡ without_feed line ∷ lines_of after
lines_first line after first = (first_line line after first).lines

-- a last line that no line feed ends is open, and a whole one isn't
pub whole_closed : (line : List ℕ) → IsWhole line → ¬ IsOpen line
whole_closed line whole opened =
    let text : List ℕ = whole.0 in
    let short : without_feed line ≡ text = ap without_feed whole.1 ∙ without_whole text in
    absurd (omega (arith, opened.1, ap length short, ap length whole.1, length-append text (10 ∷ [])))

pub whole_if_closed : (line after : List ℕ) → IsFirstLine line after → ¬ IsOpen line → IsWhole line
whole_if_closed line after (inl whole) closed = whole
whole_if_closed line after (inr open_) closed = absurd (closed (open_.0.0, ap length (without_open line (no_feed line open_.0.1))))

pub last_if_open : (line after : List ℕ) → IsFirstLine line after → IsOpen line → (HasNoFeed line) × (after ≡ [])
last_if_open line after (inl whole) opened = absurd (whole_closed line whole opened)
last_if_open line after (inr open_) opened = (open_.0.1, open_.1)

pub first_some : (line after : List ℕ) → IsFirstLine line after → 0 < length line
first_some line after (inl whole) = omega (arith, ap length whole.1, length-append whole.0 (10 ∷ []))
first_some line after (inr open_) = open_.0.0

-- a line that isn't UTF-8 isn't without its line feed
pub utf8_whole : (line after : List ℕ) → IsFirstLine line after → IsUtf8 (without_feed line) → IsUtf8 line
utf8_whole line after first utf8 = (first_line line after first).utf8.1 utf8

-- a front of bytes without a line feed has none
pub no_feed_front : (a b : List ℕ) → HasNoFeed (a ++ b) → HasNoFeed a
no_feed_front [] b none k d lt = absurd (omega (arith, lt))
no_feed_front (x ∷ a) b none zero d lt = none 0 d (omega arith)
no_feed_front (x ∷ a) b none (suc k) d lt = no_feed_front a b (λ j e l. none (suc j) e (omega arith)) k d (omega arith)

pub no_feed_nil : HasNoFeed []
no_feed_nil k d lt = absurd (omega (arith, lt))

-- the lines that are reached

pub le_or_lt : (m n : ℕ) → (m ≤ n) ⊎ (n < m)
le_or_lt m n = ⊎_elim (λ same. inl (omega (arith, same))) (λ other. ⊎_elim (λ less. inl (omega (arith, less))) (λ more. inr more) other) (cases_order m n)

reached_if : (b : Bool) (left : ℕ) (bytes : List ℕ) → nat_le (length bytes) left ≡ b → reached_lines left bytes ≡ (if b then lines_of bytes else ended_lines left bytes)
reached_if b left bytes e = ap (λ (t : Bool). (if t then lines_of bytes else ended_lines left bytes)) e

pub reached_all : (left : ℕ) (bytes : List ℕ) → length bytes ≤ left → reached_lines left bytes ≡ lines_of bytes
reached_all left bytes le = reached_if true left bytes (grind (arith, nat_tests))

pub reached_ended : (left : ℕ) (bytes : List ℕ) → left < length bytes → reached_lines left bytes ≡ ended_lines left bytes
reached_ended left bytes lt = reached_if false left bytes (grind (arith, nat_tests))

pub ended_first : (line after : List ℕ) (n m : ℕ) → IsWhole line → n ≡ length line + m → ended_lines n (line ++ after) ≡ without_feed line ∷ ended_lines m after
ended_first line after n m whole e =
    let text : List ℕ = whole.0 in
    let cut : take n (line ++ after) ≡ line ++ take m after = ap (λ (k : ℕ). take k (line ++ after)) e ∙ take-append-add line after m in
    let split : line ++ take m after ≡ text ++ 10 ∷ take m after = ap (λ (t : List ℕ). t ++ take m after) whole.1 ∙ append_assoc text (10 ∷ []) (take m after) in
    ap (λ (t : List ℕ). lines_of (up_to_last_feed t)) (cut ∙ split) ∙ ap lines_of (up_whole text (take m after))
    ∙ lines_whole text (up_to_last_feed (take m after)) (no_feed text whole.2)
    ∙ ap (λ (t : List ℕ). t ∷ ended_lines m after) (sym (ap without_feed whole.1 ∙ without_whole text))

pub ended_none : (front after : List ℕ) (n : ℕ) → HasNoFeed front → n ≡ length front → ended_lines n (front ++ after) ≡ []
ended_none front after n plain e =
    let cut : take n (front ++ after) ≡ front = ap (λ (k : ℕ). take k (front ++ after)) e ∙ take-append-le (length front) front after (omega arith) ∙ take_all (length front) front (omega arith) in
    ap (λ (t : List ℕ). lines_of (up_to_last_feed t)) cut ∙ ap lines_of (up_none front (no_feed front plain))

pub reached_first : (line after : List ℕ) (left room : ℕ) → IsFirstLine line after → left ≡ length line + room → reached_lines left (line ++ after) ≡ without_feed line ∷ reached_lines room after
reached_first line after left room first e =
    let long : length (line ++ after) ≡ length line + length after = length-append line after in
    ⊎_elim
    (λ (le : length after ≤ room). reached_all left (line ++ after) (omega arith) ∙ lines_first line after first ∙ ap (λ (t : List (List ℕ)). without_feed line ∷ t) (sym (reached_all room after le)))
    (λ (lt : room < length after). reached_ended left (line ++ after) (omega arith)
    ∙ ended_first line after left room (whole_if_closed line after first (λ opened. absurd (omega (arith, ap length (last_if_open line after first opened).1)))) e
    ∙ ap (λ (t : List (List ℕ)). without_feed line ∷ t) (sym (reached_ended room after lt)))
    (le_or_lt (length after) room)

-- whether the end is reached
pub reaches_more : (line after : List ℕ) (left room : ℕ) → left ≡ length line + room → reaches_end left (line ++ after) ≡ reaches_end room after
reaches_more line after left room e =
    let long : length (line ++ after) ≡ length line + length after = length-append line after in
    ⊎_elim
    (λ (le : length after ≤ room). (let far : length (line ++ after) ≤ left = omega (arith, long, e, le) in grind (arith, nat_tests)))
    (λ (lt : room < length after). (let far : left < length (line ++ after) = omega (arith, long, e, lt) in grind (arith, nat_tests)))
    (le_or_lt (length after) room)

pub reaches_all : (left : ℕ) (bytes : List ℕ) → length bytes ≤ left → reaches_end left bytes ≡ true
reaches_all left bytes le = grind (arith, nat_tests)

pub reaches_not : (left : ℕ) (bytes : List ℕ) → left < length bytes → reaches_end left bytes ≡ false
reaches_not left bytes lt = grind (arith, nat_tests)

pub open_if_unended : (line : List ℕ) → IsUnended line → IsOpen line
open_if_unended line unended = (unended.0, ap length (without_open line (no_feed line unended.1)))

-- a line that no line feed ends gives no ended line
pub ended_unended : (line after : List ℕ) (n m : ℕ) → IsUnended line → after ≡ [] → n ≡ length line + m → ended_lines n (line ++ after) ≡ []
ended_unended line after n m unended none e =
    let all : line ++ after ≡ line = ap (λ (t : List ℕ). line ++ t) none ∙ append-nil line in
    let cut : take n (line ++ after) ≡ line = ap (take n) all ∙ take_all n line (omega (arith, e)) in
    ap (λ (t : List ℕ). lines_of (up_to_last_feed t)) cut ∙ ap lines_of (up_none line (no_feed line unended.1))

pub ended_nil : (n : ℕ) (bytes : List ℕ) → bytes ≡ [] → ended_lines n bytes ≡ []
ended_nil n bytes none = ap (ended_lines n) none ∙ ap (λ (t : List ℕ). lines_of (up_to_last_feed t)) (take_all n [] (omega arith))

-- a front of bytes without a line feed has none
no_feed_take : (n : ℕ) (bytes : List ℕ) → HasNoFeed bytes → HasNoFeed (take n bytes)
no_feed_take n bytes none = no_feed_front (take n bytes) (drop n bytes) (subst HasNoFeed (sym (take-append-drop n bytes)) none)

ended_front : (line after text : List ℕ) (n : ℕ) → take n (line ++ after) ≡ take n text → HasNoFeed text → ended_lines n (line ++ after) ≡ []
ended_front line after text n cut plain =
    ap (λ (t : List ℕ). lines_of (up_to_last_feed t)) cut ∙ ap lines_of (up_none (take n text) (no_feed (take n text) (no_feed_take n text plain)))

-- a line has not ended before its last byte
pub ended_short : (line after : List ℕ) (n : ℕ) → IsFirstLine line after → n < length line → ended_lines n (line ++ after) ≡ []
ended_short line after n (inl whole) short =
    let text : List ℕ = whole.0 in
    let cut : take n (line ++ after) ≡ take n line = take-append-le n line after (omega (arith, short)) in
    let inside : n ≤ length text = omega (arith, short, ap length whole.1, length-append text (10 ∷ [])) in
    ended_front line after text n (cut ∙ ap (take n) whole.1 ∙ take-append-le n text (10 ∷ []) inside) whole.2
ended_short line after n (inr last) short = ended_front line after line n (take-append-le n line after (omega (arith, short))) last.0.1

-- there is no line
pub not_open : (line : List ℕ) → line ≡ [] → ¬ IsOpen line
not_open line none opened = absurd (omega (arith, opened.0, ap length none))
