-- Segments of a text, as they are found and as they are filled.
use Rattle.std.proofs.Common.{◌≡◌, ◌⊎◌, inl, inr, ℕ, ◌<◌, List, [], ◌∷◌, ◌++◌, refl, length, arith, sym, ◌∙◌, ap, append_assoc, append-nil, length-append, Option, Some, None, Result, Ok, Err, subst, map, drop, get_or, ◌+◌}
use Rattle.std.specs.Prelude.{IsUtf8, option_map}
use Rattle.std.specs.Borrow.{MutBor}
use Rattle.std.specs.Fn.{Mut}
use Rattle.std.proofs.lemmas.List.{drop_more}
use Rattle.strfmt.specs.declared.cause.Cause.{Cause}
use Rattle.strfmt.specs.declared.types.FmtError.{FmtError}
use Rattle.strfmt.specs.declared.types.FmtError.TheVariants.{NoMemory}
use Rattle.strfmt.specs.declared.template.Segment.{Segment}
use Rattle.strfmt.specs.declared.template.Segment.TheVariants.{Plain, Escape, Pattern}
use Rattle.strfmt.specs.Fault.{fault_of, IsFault}
use Rattle.strfmt.specs.Spec.{View}
use Rattle.strfmt.specs.declared.cutting.Brace.{Brace}
use Rattle.strfmt.specs.declared.cutting.Brace.TheVariants.{Open, Close}
use Rattle.strfmt.specs.declared.template.Found.{Found}
use Rattle.strfmt.specs.declared.template.Found.TheVariants as Of
use Rattle.strfmt.specs.Grammar.Pattern.{IsRead}
use Rattle.strfmt.specs.Grammar.{Piece, ordinary, Break, refused, cause_of, IsBrace, BeginsWithPattern, IsCut}
use Rattle.strfmt.specs.Text.{then_next}
use Rattle.strfmt.specs.Walk.{Walked, Walks, IsWalk}
use Rattle.strfmt.specs.Inner.Cutting.{StopsBy, brace_byte}
use Rattle.strfmt.specs.Inner.Reading.{IsFaultOrMemory}
use Rattle.strfmt.specs.Inner.Segments.{pieces_of, all_pieces, IsFront, IsFound, IsFoundPattern, IsMade, FillsOne, FillsAll, WalksOver}
use Rattle.strfmt.proofs.CutLemmas.{cut_plain, utf8_rest, utf8_escape, utf8_pattern}

all_pieces-push : (segments : List Segment) (segment : Segment) → all_pieces (segments ++ segment ∷ []) ≡ all_pieces segments ++ pieces_of segment
all_pieces-push [] segment = append-nil (pieces_of segment)
all_pieces-push (s ∷ ss) segment =
    ap (λ (ps : List Piece). pieces_of s ++ ps) (all_pieces-push ss segment) ∙ sym (append_assoc (pieces_of s) (all_pieces ss) (pieces_of segment))

is_brace : (brace : Brace) → IsBrace (brace_byte brace)
is_brace Open = inl refl
is_brace Close = inr refl

-- a pattern that is found stands in front
found_at : (text inner after : List ℕ) (segment : Segment) (rest : List ℕ) (view : View) → BeginsWithPattern inner text after → segment ≡ Pattern view → IsRead inner (Ok view) → rest ≡ after → IsFront segment text rest
found_at text inner after segment rest view p e r k =
    let P : List ℕ → Type 0 = λ bs. BeginsWithPattern inner text bs in
    let Q : Segment → Type 0 = λ s. IsFront s text rest in
    subst Q (sym e) (inner, subst P (sym k) p, r)

pub found_pattern : (text inner after : List ℕ) (found : Found) → BeginsWithPattern inner text after → IsFoundPattern inner after found → IsFound text found
found_pattern text inner after (Of.Segment segment rest) p h = found_at text inner after segment rest.now h.0 p h.1 h.2 h.3
found_pattern text inner after Of.End p h = absurd h
found_pattern text inner after (Of.Wrong cause) p h = (refused cause, (inner, after, p, h), refl)

cut_front : (segment : Segment) (text rest : List ℕ) (pieces : List Piece) (stop : Option Break) → IsFront segment text rest → IsCut pieces stop rest → IsCut (pieces_of segment ++ pieces) stop text
cut_front (Plain plain) text rest pieces stop f c = cut_plain text plain.now rest pieces stop f.0.plain f.0.whole c
cut_front (Escape brace) text rest pieces stop f c = (rest, (is_brace brace, f), c)
cut_front (Pattern view) text rest pieces stop f c = (rest, f, c)

utf8_front : (segment : Segment) (text rest : List ℕ) → IsUtf8 text → IsFront segment text rest → IsUtf8 rest
utf8_front (Plain plain) text rest u f = utf8_rest text plain.now rest u f.0
utf8_front (Escape brace) text rest u f = utf8_escape text rest (brace_byte brace) u (is_brace brace) f
utf8_front (Pattern view) text rest u f = (utf8_pattern text f.0 rest u f.1.1).1

pub shorter : (segment : Segment) (text rest : List ℕ) → IsFront segment text rest → length rest < length text
shorter (Plain plain) text rest f = omega (arith, ap length f.0.whole, length-append plain.now rest, f.1)
shorter (Escape brace) text rest f = omega (arith, ap length f)
shorter (Pattern view) text rest f = omega (arith, ap length f.1.1, length-append f.0 (125 ∷ rest))

-- the segment at an index stands before those after it
pub item_at : (segments : List Segment) (i : ℕ) (segment : Segment) → i < length segments → segment ≡ get_or segments i segment → drop i segments ≡ segment ∷ drop (i + 1) segments
item_at segments i segment h e = drop_more segments i segment h ∙ ap (λ (s : Segment). s ∷ drop (i + 1) segments) (sym e)

-- the segments so far, and the text that is left
pub record Cutting (text : List ℕ) (segments : List Segment) (rest : List ℕ) : Type 0 where
  pub utf8 : IsUtf8 rest
  pub onward : (pieces : List Piece) (stop : Option Break) → IsCut pieces stop rest → IsCut (all_pieces segments ++ pieces) stop text

pub cutting_none : (text : List ℕ) → IsUtf8 text → Cutting text [] text
cutting_none text u = record { utf8 = u; onward = λ pieces stop c. c }

pub cutting_more : (text : List ℕ) (segments : List Segment) (segment : Segment) (rest after : List ℕ) → Cutting text segments rest → IsFront segment rest after → Cutting text (segments ++ segment ∷ []) after
cutting_more text segments segment rest after it f = record {
  utf8 = utf8_front segment rest after it.utf8 f;
  onward = λ pieces stop c.
      let whole : all_pieces segments ++ (pieces_of segment ++ pieces) ≡ all_pieces (segments ++ segment ∷ []) ++ pieces =
      sym (append_assoc (all_pieces segments) (pieces_of segment) pieces) ∙ ap (λ (ps : List Piece). ps ++ pieces) (sym (all_pieces-push segments segment)) in
      let P : List Piece → Type 0 = λ ps. IsCut ps stop text in
      subst P whole (it.onward (pieces_of segment ++ pieces) stop (cut_front segment rest after pieces stop f c));
}

stopped : (text : List ℕ) (segments : List Segment) (rest : List ℕ) (stop : Option Break) → Cutting text segments rest → IsCut [] stop rest → IsCut (all_pieces segments) stop text
stopped text segments rest stop it c = let P : List Piece → Type 0 = λ ps. IsCut ps stop text in subst P (append-nil (all_pieces segments)) (it.onward [] stop c)

pub cutting_end : (text : List ℕ) (segments : List Segment) (rest : List ℕ) → Cutting text segments rest → rest ≡ [] → IsMade segments None text
cutting_end text segments rest it e = (None, refl, stopped text segments rest None it e)

pub cutting_wrong : (text : List ℕ) (segments : List Segment) (rest : List ℕ) (cause : Cause) → Cutting text segments rest → StopsBy cause rest → IsMade segments (Some cause) text
cutting_wrong text segments rest cause it s = (Some s.0, ap (λ (c : Cause). Some c) s.2, stopped text segments rest (Some s.0) it s.1)

-- the answer has a text before it
abbrev pub walked_after : List ℕ → Walked → Walked
walked_after front answer = then_next (Ok front) answer

pub walked_after-append : (xs ys : List ℕ) (answer : Walked) → walked_after xs (walked_after ys answer) ≡ walked_after (xs ++ ys) answer
walked_after-append xs ys (Ok text) = ap (λ (bs : List ℕ). Ok bs) (sym (append_assoc xs ys text))
walked_after-append xs ys (Err error) = refl

walked_after-nil : (answer : Walked) → walked_after [] answer ≡ answer
walked_after-nil (Ok text) = refl
walked_after-nil (Err error) = refl

module _ {F : Type 0} (g : Mut F (MutBor View × Unit {0}) (Result (Unit {0}) FmtError × (MutBor View × Unit {0}))) where
  walk_plain : (f last : F) (front : List ℕ) (pieces : List Piece) (stop : Option Break) (answer : Walked) → Walks g f pieces stop answer last → Walks g f (map ordinary front ++ pieces) stop (walked_after front answer) last
  walk_plain f last [] pieces stop answer w = let P : Walked → Type 0 = λ a. Walks g f pieces stop a last in subst P (sym (walked_after-nil answer)) w
  walk_plain f last (b ∷ bs) pieces stop answer w = (walked_after bs answer, walk_plain f last bs pieces stop answer w, sym (walked_after-append (b ∷ []) bs answer))

  -- a segment that is filled, in front of a walk
  record Step (f f' : F) (segment : Segment) (out out' : List ℕ) : Type 0 where
    added : List ℕ
    grown : out' ≡ out ++ added
    over : (pieces : List Piece) (stop : Option Break) (answer : Walked) (last : F) → Walks g f' pieces stop answer last → Walks g f (pieces_of segment ++ pieces) stop (walked_after added answer) last

  step : (f f' : F) (segment : Segment) (out out' : List ℕ) → FillsOne g f segment out (Ok tt) out' f' → Step f f' segment out out'
  step f f' (Plain plain) out out' h = record {
    added = plain.now;
    grown = h.0;
    over = λ pieces stop answer last w. walk_plain f last plain.now pieces stop answer (let P : F → Type 0 = λ s. Walks g s pieces stop answer last in subst P h.1 w);
  }
  step f f' (Escape b) out out' h = record {
    added = brace_byte b ∷ [];
    grown = h.0;
    over = λ pieces stop answer last w. (answer, (let P : F → Type 0 = λ s. Walks g s pieces stop answer last in subst P h.1 w), refl);
  }
  step f f' (Pattern view) out out' h = record {
    added = h.0.text;
    grown = h.2;
    over = λ pieces stop answer last w. (Ok tt, h.0, f', h.1, (answer, w, refl));
  }

  -- segments were filled from the closure f0 on, and those that are left begin at f
  pub record Filled (f0 : F) (segments : List Segment) (fault : Option Cause) (old : List ℕ) (f : F) (rest : List Segment) (out : List ℕ) : Type 0 where
    pub written : List ℕ
    pub grown : out ≡ old ++ written
    pub onward : (answer : Walked) (last : F) → WalksOver g f rest fault answer last → WalksOver g f0 segments fault (walked_after written answer) last

  module _ (f0 : F) (segments : List Segment) (fault : Option Cause) (old : List ℕ) where
    pub filled_none : Filled f0 segments fault old f0 segments old
    filled_none = record {
      written = [];
      grown = sym (append-nil old);
      onward = λ answer last w. let P : Walked → Type 0 = λ a. WalksOver g f0 segments fault a last in subst P (sym (walked_after-nil answer)) w;
    }

    pub filled_more : (f f' : F) (segment : Segment) (rest more : List Segment) (out out' : List ℕ) → Filled f0 segments fault old f rest out → rest ≡ segment ∷ more
        → FillsOne g f segment out (Ok tt) out' f' → Filled f0 segments fault old f' more out'
    filled_more f f' segment rest more out out' it e h =
        let s = step f f' segment out out' h in
        record {
          written = it.written ++ s.added;
          grown = s.grown ∙ ap (λ (bs : List ℕ). bs ++ s.added) it.grown ∙ append_assoc old it.written s.added;
          onward = λ answer last w.
              let one : WalksOver g f (segment ∷ more) fault (walked_after s.added answer) last = λ stop k. s.over (all_pieces more) stop answer last (w stop k) in
              let Q : List Segment → Type 0 = λ ss. WalksOver g f ss fault (walked_after s.added answer) last in
              let P : Walked → Type 0 = λ a. WalksOver g f0 segments fault a last in
              subst P (walked_after-append it.written s.added answer) (it.onward (walked_after s.added answer) last (subst Q (sym e) one));
        }

    refusal : (f f' : F) (segment : Segment) (rest more : List Segment) (out out' : List ℕ) (error : FmtError) → Filled f0 segments fault old f rest out → rest ≡ segment ∷ more
        → (out' ≡ out) → ((error ≡ NoMemory) ⊎ WalksOver g f (segment ∷ more) fault (Err error) f') → FillsAll g f0 segments fault old (Err error) out' f'
    refusal f f' segment rest more out out' error it e o (inl memory) = ((it.written, o ∙ it.grown), inl memory)
    refusal f f' segment rest more out out' error it e o (inr w) =
        let Q : List Segment → Type 0 = λ ss. WalksOver g f ss fault (Err error) f' in
        ((it.written, o ∙ it.grown), inr (it.onward (Err error) f' (subst Q (sym e) w)))

    pub filled_error : (f f' : F) (segment : Segment) (rest more : List Segment) (out out' : List ℕ) (error : FmtError) → Filled f0 segments fault old f rest out → rest ≡ segment ∷ more
        → FillsOne g f segment out (Err error) out' f' → FillsAll g f0 segments fault old (Err error) out' f'
    filled_error f f' (Plain plain) rest more out out' error it e h = refusal f f' (Plain plain) rest more out out' error it e h.0 (inl h.1)
    filled_error f f' (Escape b) rest more out out' error it e h = refusal f f' (Escape b) rest more out out' error it e h.0 (inl h.1)
    filled_error f f' (Pattern view) rest more out out' error it e (o, inl memory) = refusal f f' (Pattern view) rest more out out' error it e o (inl memory)
    filled_error f f' (Pattern view) rest more out out' error it e (o, inr call) =
        refusal f f' (Pattern view) rest more out out' error it e o (inr (λ stop k. (Err error, call.0, f', call.1, (refl, refl))))

    over_none : (stop : Option Break) → option_map cause_of stop ≡ None → stop ≡ None
    over_none None k = refl
    over_none (Some break) k = cc

    pub filled_end : (f : F) (rest : List Segment) (out : List ℕ) → Filled f0 segments fault old f rest out → length rest ≡ 0 → fault ≡ None → FillsAll g f0 segments fault old (Ok tt) out f
    filled_end f (s ∷ ss) out it h n = absurd (omega (arith, h))
    filled_end f [] out it h n =
        let done : WalksOver g f [] fault (Ok []) f = λ stop k. let P : Option Break → Type 0 = λ s. Walks g f [] s (Ok []) f in subst P (sym (over_none stop (k ∙ n))) (refl, refl) in
        let text : it.written ++ [] ≡ it.written = append-nil it.written in
        let P : List ℕ → Type 0 = λ bs. WalksOver g f0 segments fault (Ok bs) f in
        (it.written, it.grown, subst P text (it.onward (Ok []) f done))

    told : (f : F) (cause : Cause) (error : FmtError) → IsFault error (fault_of cause) → (stop : Option Break) → option_map cause_of stop ≡ Some cause → Walks g f [] stop (Err error) f
    told f cause error is None k = cc
    told f cause error is (Some break) k =
        let same : cause_of break ≡ cause = cc in
        let P : Cause → Type 0 = λ c. IsFault error (fault_of c) in
        (subst P (sym same) is, refl)

    pub filled_fault : (f : F) (rest : List Segment) (out : List ℕ) (cause : Cause) (error : FmtError) → Filled f0 segments fault old f rest out → length rest ≡ 0 → fault ≡ Some cause
        → IsFaultOrMemory (fault_of cause) error → FillsAll g f0 segments fault old (Err error) out f
    filled_fault f (s ∷ ss) out cause error it h k t = absurd (omega (arith, h))
    filled_fault f [] out cause error it h k (inl memory) = ((it.written, it.grown), inl memory)
    filled_fault f [] out cause error it h k (inr is) = ((it.written, it.grown), inr (it.onward (Err error) f (λ stop e. told f cause error is stop (e ∙ k))))

  -- the segments of a text that are filled are a walk over the text
  pub walk_made : (f last : F) (segments : List Segment) (fault : Option Cause) (text : List ℕ) (answer : Walked) → IsMade segments fault text → WalksOver g f segments fault answer last → IsWalk g f text answer last
  walk_made f last segments fault text answer made w = (all_pieces segments, made.0, made.2, w made.0 made.1)
