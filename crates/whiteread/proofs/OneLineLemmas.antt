-- Bytes that are taken one by one, up to a line's end.
use Rattle.std.proofs.Common.{◌≡◌, ◌≢◌, ◌<◌, ◌≤◌, ◌⊎◌, ◌==◌, ℕ, true, not, List, [], ◌∷◌, ◌++◌, length, Some, None, Ok, Err, inl, inr, ⊎_elim, refl, sym, ◌∙◌, ap, subst, arith, length-append, Vec}
use Rattle.std.specs.Global.{Global}
use Rattle.std.proofs.lemmas.Bool.{cases_order}
use Rattle.std.proofs.lemmas.Grind.{common_steps}
use Rattle.std.proofs.lemmas.List.Elements.{All-append, All-cons, All-nil}
use Rattle.edge_io.specs.Supply.{Supply, Gave}
use Rattle.whiteread.specs.Lines.{HasNoFeed, IsWhole, line_feed}
use Rattle.whiteread.specs.Lines.OneLine.{GivesByte, TakesOneLine, LineRefused, longest_line}
use Rattle.whiteread.specs.declared.stream.error.Error.{Error}
use Rattle.whiteread.specs.declared.stream.error.Error.TheVariants.{IoError, NoMemory}
use Rattle.whiteread.specs.declared.stream.error.IoFault.TheVariants.{TooLong}
use Rattle.edge_io.specs.Supply.Laws.{gave_none, gave_more}

-- bytes without a line feed were taken, and no more than a line may have
pub record Taking {B : Type 0} (supply : Supply B) (old new : B) (line : List ℕ) : Type 0 where
  pub gave : Gave supply old new line
  pub same : supply.faults new ≡ supply.faults old
  pub none : HasNoFeed line
  pub few : length line ≤ longest_line

pub taking_none : {B : Type 0} (supply : Supply B) (old : B) (line : List ℕ) → line ≡ [] → Taking supply old old line
taking_none supply old line is =
    subst (Taking supply old old) (sym is) (record { gave = gave_none supply old; same = refl; none = All-nil (λ byte. not (byte == line_feed) ≡ true); few = omega arith })

other_byte : (byte : ℕ) → byte ≢ 10 → not (byte == line_feed) ≡ true
other_byte byte other = grind (arith, common_steps, other)

no_feed_more : (line : List ℕ) (byte : ℕ) → HasNoFeed line → byte ≢ 10 → HasNoFeed (line ++ byte ∷ [])
no_feed_more line byte none other =
    All-append (λ x. not (x == line_feed) ≡ true) line (byte ∷ []) none (All-cons (λ x. not (x == line_feed) ≡ true) byte [] (other_byte byte other) (All-nil (λ x. not (x == line_feed) ≡ true)))

pub taking_more : {B : Type 0} (supply : Supply B) (old mid new : B) (line : List ℕ) (byte : ℕ)
    → Taking supply old mid line → GivesByte supply mid (Ok (Some byte)) new → byte ≢ 10 → length line ≢ longest_line → Taking supply old new (line ++ byte ∷ [])
taking_more supply old mid new line byte taking gives other short = record {
  gave = gave_more supply old mid new line (byte ∷ []) taking.gave gives.0;
  same = gives.1 ∙ taking.same;
  none = no_feed_more line byte taking.none other;
  few = omega (arith, length-append line (byte ∷ []), taking.few, short);
}

-- the line feed ends the line
pub taken_whole : {B : Type 0} (supply : Supply B) (old mid new : B) (line : List ℕ) (byte : ℕ) (all : Vec ℕ Global) → all.items ≡ line ++ byte ∷ []
    → Taking supply old mid line → GivesByte supply mid (Ok (Some byte)) new → byte ≡ 10 → length line ≢ longest_line → TakesOneLine supply old (Ok all) new
taken_whole supply old mid new line byte all is taking gives feed short =
    let items : all.items ≡ line ++ line_feed ∷ [] = is ∙ ap (λ b. line ++ b ∷ []) feed in (
      record {
        gave = subst (Gave supply old new) (sym is) (gave_more supply old mid new line (byte ∷ []) taking.gave gives.0);
        ended = inl (line, items, taking.none);
        few = omega (arith, ap (λ (l : List ℕ). length l) is, length-append line (byte ∷ []), taking.few, short);
      },
      gives.1 ∙ taking.same,
    )

append_nil : (l : List ℕ) → l ++ [] ≡ l
append_nil [] = refl
append_nil (x ∷ l) = ap (λ (m : List ℕ). x ∷ m) (append_nil l)

-- the source's end ends the line
pub taken_last : {B : Type 0} (supply : Supply B) (old mid new : B) (all : Vec ℕ Global)
    → Taking supply old mid all.items → GivesByte supply mid (Ok None) new → TakesOneLine supply old (Ok all) new
taken_last supply old mid new all taking gives = (
  record {
    gave = subst (Gave supply old new) (append_nil all.items) (gave_more supply old mid new all.items [] taking.gave gives.0);
    ended = inr (taking.none, gives.1);
    few = taking.few;
  },
  gives.2 ∙ taking.same,
)

pub taken_long : {B : Type 0} (supply : Supply B) (old mid new : B) (line : List ℕ) (byte : ℕ)
    → Taking supply old mid line → GivesByte supply mid (Ok (Some byte)) new → length line ≡ longest_line → LineRefused supply old (IoError TooLong) new
taken_long supply old mid new line byte taking gives full =
    (record { got = line; last = byte; gave = gave_more supply old mid new line (byte ∷ []) taking.gave gives.0; no_feed = taking.none; full = full }, gives.1 ∙ taking.same)

pub taken_failed : {B : Type 0} (supply : Supply B) (old mid new : B) (line : List ℕ) (why : Error)
    → Taking supply old mid line → GivesByte supply mid (Err why) new → LineRefused supply old why new
taken_failed supply old mid new line why taking gives =
    subst (λ e. LineRefused supply old e new) (sym gives.0) ((line, subst (Gave supply old new) (append_nil line) (gave_more supply old mid new line [] taking.gave gives.1), taking.none, taking.few), rw (sym taking.same) gives.2)

-- a byte more ends the line, or the line goes on
of_one_line : (line : List ℕ) (byte : ℕ) → HasNoFeed line → HasNoFeed (line ++ byte ∷ []) ⊎ IsWhole (line ++ byte ∷ [])
of_one_line line byte none =
    ⊎_elim
    (λ (feed : byte ≡ line_feed). inr (line, ap (λ b. line ++ b ∷ []) feed, none))
    (λ other. inl (no_feed_more line byte none (⊎_elim (λ (less : byte < line_feed) feed. absurd (omega (arith, less, feed))) (λ (more : line_feed < byte) feed. absurd (omega (arith, more, feed))) other)))
    (cases_order byte line_feed)

pub taken_no_memory : {B : Type 0} (supply : Supply B) (old mid new : B) (line : List ℕ) (byte : ℕ)
    → Taking supply old mid line → GivesByte supply mid (Ok (Some byte)) new → length line ≢ longest_line → LineRefused supply old NoMemory new
taken_no_memory supply old mid new line byte taking gives short = (
  record {
    got = line ++ byte ∷ [];
    gave = gave_more supply old mid new line (byte ∷ []) taking.gave gives.0;
    of_one_line = of_one_line line byte taking.none;
    few = omega (arith, length-append line (byte ∷ []), taking.few, short);
  },
  gives.1 ∙ taking.same,
)
