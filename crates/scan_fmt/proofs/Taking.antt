-- What the rest of the directives come to over the rest of the input, after the pieces so far; and the directives of a format so far.
use Rattle.std.proofs.Common.{◌≡◌, ◌≢◌, ◌+◌, ◌≤◌, ℕ, Bool, true, false, cond, List, [], ◌∷◌, ◌++◌, length, take, drop, map, Some, None, Ok, Err, get_or, suc, zero, sym, ap, subst, refl, inl, inr, ◌∙◌, arith, append_assoc, length-append, eqb}
use Rattle.std.specs.List.{AllByRecursion}
use Rattle.std.specs.Str.{chars, IsUtf8, encode_utf8_all}
use Rattle.std.proofs.lemmas.Bool.{cases_Bool}
use Rattle.std.proofs.lemmas.List.{append-nil, take-append-drop}
use Rattle.std.proofs.lemmas.Str.{chars-append, encodes-chars, encodes-append, IsUtf8-append}
use Rattle.std.specs.List.{slice_index, AllAdjacentBelow}
use Rattle.std.specs.Str.Parse.{without_leading_plus}
use Rattle.scan_fmt.specs.declared.slices.Piece.{Piece}
use Rattle.scan_fmt.specs.Grammar.{Shape, Characters, Number, Decimal, Hexadecimal, Float, Directive, Spells, Cuts, is_blank, after_blanks}
use Rattle.scan_fmt.specs.Scanned.{IsLongest, MayTake, Token, token_text, Passes, ended, refused, passed, Takes, tokens_of, ScannedTexts}
use Rattle.scan_fmt.specs.Slices.{piece_text, IsPiece, ScannedPieces}
use Rattle.scan_fmt.specs.Inner.Fields.{NoDirective}
use Rattle.scan_fmt.specs.Inner.Parts.{IsSlice, ArePieces, AreInOrder, Outcome, with_token, Refuses, TakesPieces}
use Rattle.scan_fmt.specs.Inner.Found.{AreParts, begins_0x}

-- with these tokens in front
abbrev pub after : List Token → Outcome → Outcome
after done (Ok tokens) = Ok (done ++ tokens)
after done (Err input) = Err input

after_nil : (out : Outcome) → after [] out ≡ out
after_nil (Ok tokens) = refl
after_nil (Err input) = refl

none_in_front : (out : Outcome) → with_token None out ≡ out
none_in_front (Ok tokens) = refl
none_in_front (Err input) = refl

after_token : (done : List Token) (token : Token) (out : Outcome) → after done (with_token (Some token) out) ≡ after (done ++ token ∷ []) out
after_token done token (Ok tokens) = ap Ok (sym (append_assoc done (token ∷ []) tokens))
after_token done token (Err input) = refl

-- pieces
pieces_more : (input : List ℕ) (ps : List Piece) (ts : List Token) (p : Piece) (t : Token) → ArePieces input ps ts → IsPiece input p t → ArePieces input (ps ++ p ∷ []) (ts ++ t ∷ [])
pieces_more input [] [] p t h is = (is, tt)
pieces_more input [] (u ∷ ts) p t h is = absurd h
pieces_more input (q ∷ ps) [] p t h is = absurd h
pieces_more input (q ∷ ps) (u ∷ ts) p t h is = (h.0, pieces_more input ps ts p t h.1 is)

order_weaker : (m n : ℕ) (ps : List Piece) → m ≤ n → AreInOrder n ps → AreInOrder m ps
order_weaker m n [] le h = tt
order_weaker m n (p ∷ ps) le h = (omega (arith, h.0), h.1)

pub slices_are : (input : List ℕ) (ps : List Piece) (ts : List Token) → ArePieces input ps ts → AllByRecursion (IsSlice input) ps
slices_are input [] [] h = tt
slices_are input [] (t ∷ ts) h = absurd h
slices_are input (p ∷ ps) [] h = absurd h
slices_are input (p ∷ ps) (t ∷ ts) h = (record { forward = h.0.forward; within = h.0.ends.0; starts = h.0.starts; ends = h.0.ends }, slices_are input ps ts h.1)

pub texts_are : (input : List ℕ) (ps : List Piece) (ts : List Token) → ArePieces input ps ts → map chars (map (piece_text input) ps) ≡ map (λ (t : Token). t.text) ts
texts_are input [] [] h = refl
texts_are input [] (t ∷ ts) h = absurd h
texts_are input (p ∷ ps) [] h = absurd h
texts_are input (p ∷ ps) (t ∷ ts) h = let one : chars (piece_text input p) ≡ t.text = h.0.text in let more = texts_are input ps ts h.1 in cc

-- the bytes behind a front, where it is known of their characters
rest_of : (text rest front : List ℕ) → IsUtf8 text → IsUtf8 rest → chars text ≡ front ++ chars rest → text ≡ encode_utf8_all front ++ rest
rest_of text rest front u v e = sym (encodes-chars text u) ∙ ap encode_utf8_all e ∙ encodes-append front (chars rest) ∙ ap (λ (t : List ℕ). encode_utf8_all front ++ t) (encodes-chars rest v)

-- a front of the input, what stands behind it, and that it is no shorter than another
pub record Front (input rest : List ℕ) (least : ℕ) : Type 0 where
  pub front : List ℕ
  pub whole : input ≡ front ++ rest
  pub longer : least ≤ length front

front_more : (input front rest more bytes : List ℕ) → input ≡ front ++ rest → rest ≡ bytes ++ more → Front input more (length front)
front_more input front rest more bytes whole is = record {
  front = front ++ bytes;
  whole = whole ∙ ap (λ (t : List ℕ). front ++ t) is ∙ sym (append_assoc front bytes more);
  longer = omega (arith, length-append front bytes);
}

blanks_front : (text : List ℕ) → (blanks : List ℕ) × (text ≡ blanks ++ after_blanks text)
blanks_front [] = ([], refl)
blanks_front (c ∷ cs) = elim (cases_Bool (is_blank c)) [
  | inl e ↦ rw e (let more = blanks_front cs in (c ∷ more.0, ap (λ (t : List ℕ). c ∷ t) more.1))
  | inr e ↦ rw e ([], refl)
]

-- behind white space
pub here_front : (input front rest here : List ℕ) → input ≡ front ++ rest → IsUtf8 rest → IsUtf8 here → chars here ≡ after_blanks (chars rest) → Front input here (length front)
here_front input front rest here whole u v is =
    let blanks = blanks_front (chars rest) in
    front_more input front rest here (encode_utf8_all blanks.0) whole (rest_of rest here blanks.0 u v (blanks.1 ∙ ap (λ (t : List ℕ). blanks.0 ++ t) (sym is)))

-- what was taken ends with the token's text
dropped_if : (b : Bool) (text : List ℕ) → (dropped : List ℕ) × (text ≡ dropped ++ cond b (drop 2 text) text)
dropped_if true text = (take 2 text, sym (take-append-drop 2 text))
dropped_if false text = ([], refl)

plus_front : (text : List ℕ) → (dropped : List ℕ) × (text ≡ dropped ++ without_leading_plus text)
plus_front text = (take (cond (eqb (slice_index text 0) 43) 1 0) text, sym (take-append-drop (cond (eqb (slice_index text 0) 43) 1 0) text))

text_front : (s : Shape) (taken : List ℕ) → (dropped : List ℕ) × (taken ≡ dropped ++ token_text s taken)
text_front (Characters run) taken = ([], refl)
text_front (Number Decimal limit) taken = plus_front taken
text_front (Number Hexadecimal limit) taken = dropped_if (begins_0x taken) taken
text_front (Number Float limit) taken = plus_front taken

-- what lies in an input that a shape has passed
pub shape_front : (s : Shape) (input taken rest : List ℕ) → IsUtf8 input → IsUtf8 rest → IsLongest (MayTake s) (chars input) (chars taken) (chars rest) → (front : List ℕ) × (input ≡ front ++ rest)
shape_front s input taken rest u v long = (encode_utf8_all (chars taken), rest_of input rest (chars taken) u v long.whole)

pub shape_parts : (s : Shape) (input taken token rest : List ℕ) → IsUtf8 input → IsUtf8 token → IsUtf8 rest → IsLongest (MayTake s) (chars input) (chars taken) (chars rest) → chars token ≡ token_text s (chars taken) → AreParts input token rest rest
shape_parts s input taken token rest u v w long is =
    let front = text_front s (chars taken) in
    let whole : chars input ≡ front.0 ++ chars (token ++ rest) =
    long.whole ∙ ap (λ (t : List ℕ). t ++ chars rest) front.1 ∙ append_assoc front.0 (token_text s (chars taken)) (chars rest)
    ∙ ap (λ (t : List ℕ). front.0 ++ t) (ap (λ (t : List ℕ). t ++ chars rest) (sym is) ∙ sym (chars-append token rest v)) in
    record { front = encode_utf8_all front.0; whole = rest_of input (token ++ rest) front.0 u (IsUtf8-append token rest v w) whole; skipped = []; beyond = refl }

-- behind a character
pub character_front : (c : ℕ) (input rest : List ℕ) → IsUtf8 input → IsUtf8 rest → chars input ≡ c ∷ chars rest → (front : List ℕ) × (input ≡ front ++ rest)
character_front c input rest u v is = (encode_utf8_all (c ∷ []), rest_of input rest (c ∷ []) u v is)

-- what the rests come to comes after what was done, and so do its pieces
pub record Placed (all : List Directive) (input : List ℕ) (ds : List Directive) (rest : List ℕ) (pieces : List Piece) : Type 0 where
  pub done : List Token
  pub goes : (out : Outcome) → Takes ds (chars rest) out → Takes all (chars input) (after done out)
  pub are : ArePieces input pieces done
  pub front : List ℕ
  pub whole : input ≡ front ++ rest
  pub in_order : (more : List Piece) → AreInOrder (length front) more → AreInOrder 0 (pieces ++ more)

pub placed_start : (all : List Directive) (input : List ℕ) → Placed all input all input []
placed_start all input = record { done = []; goes = λ out h. subst (Takes all (chars input)) (sym (after_nil out)) h; are = tt; front = []; whole = refl; in_order = λ more h. h }

pub placed_passed : (all ds : List Directive) (d : Directive) (input rest here left : List ℕ) (pieces : List Piece) (so : Placed all input (d ∷ ds) rest pieces) → IsUtf8 rest → IsUtf8 here → chars here ≡ after_blanks (chars rest) → chars here ≢ []
    → Passes d (chars here) None (chars left) → (front : List ℕ) × (here ≡ front ++ left) → Placed all input ds left pieces
placed_passed all ds d input rest here left pieces so u v is some passes lies =
    let behind = here_front input so.front rest here so.whole u v is in
    let beyond = front_more input behind.front here left lies.0 behind.whole lies.1 in
    record {
      done = so.done;
      goes = λ out h. so.goes out (passed (subst (λ (t : List ℕ). t ≢ []) is some) None (chars left) out (subst (λ (t : List ℕ). Passes d t None (chars left)) is passes) h (sym (none_in_front out)));
      are = so.are;
      front = beyond.front;
      whole = beyond.whole;
      in_order = λ more h. so.in_order more (order_weaker (length so.front) (length beyond.front) more (omega (arith, behind.longer, beyond.longer)) h);
    }

-- what stands before a token, and before what stands behind it
pub token_front : (input front here token behind left : List ℕ) → input ≡ front ++ here → AreParts here token behind left → Front input (token ++ behind) (length front)
token_front input front here token behind left whole lies = front_more input front here (token ++ behind) lies.front whole lies.whole

pub placed_taken : (all ds : List Directive) (d : Directive) (input rest here token behind left : List ℕ) (pieces : List Piece) (p : Piece) (so : Placed all input (d ∷ ds) rest pieces) → IsUtf8 rest → IsUtf8 here
    → chars here ≡ after_blanks (chars rest) → chars here ≢ [] → Passes d (chars here) (Some (record { text = chars token; behind = chars behind })) (chars left) → AreParts here token behind left
    → IsPiece input p (record { text = chars token; behind = chars behind }) → p.start + (length token + length behind) ≡ length input → p.end + length behind ≡ length input → Placed all input ds left (pieces ++ p ∷ [])
placed_taken all ds d input rest here token behind left pieces p so u v is some passes lies piece starts ends =
    let reached = here_front input so.front rest here so.whole u v is in
    let before = token_front input reached.front here token behind left reached.whole lies in
    let beyond = front_more input (before.front ++ token) behind left lies.skipped (before.whole ∙ sym (append_assoc before.front token behind)) lies.beyond in
    let bytes : length input ≡ length before.front + (length token + length behind) = ap length before.whole ∙ length-append before.front (token ++ behind) ∙ ap (λ n. length before.front + n) (length-append token behind) in
    let held : Token = record { text = chars token; behind = chars behind } in
    record {
      done = so.done ++ held ∷ [];
      goes = λ out h. subst (Takes all (chars input)) (after_token so.done held out)
          (so.goes (with_token (Some held) out) (passed (subst (λ (t : List ℕ). t ≢ []) is some) (Some held) (chars left) out (subst (λ (t : List ℕ). Passes d t (Some held) (chars left)) is passes) h refl));
      are = pieces_more input pieces so.done p held so.are piece;
      front = beyond.front;
      whole = beyond.whole;
      in_order = λ more h. subst (AreInOrder 0) (sym (append_assoc pieces (p ∷ []) more))
          (so.in_order (p ∷ more) (omega (arith, reached.longer, before.longer, bytes, starts), order_weaker p.end (length beyond.front) more (omega (arith, bytes, ends, beyond.longer, length-append before.front token)) h));
    }

placed_done : (all ds : List Directive) (input rest : List ℕ) (pieces : List Piece) → Placed all input ds rest pieces → Takes ds (chars rest) (Ok []) → TakesPieces all input pieces
placed_done all ds input rest pieces so h = record {
  out = Ok (so.done ++ []);
  takes = so.goes (Ok []) h;
  are = subst (ArePieces input pieces) (sym (append-nil so.done)) so.are;
  in_order = subst (AreInOrder 0) (append-nil pieces) (so.in_order [] tt);
}

-- where the directives end, where the input ends, and where it doesn't fit
pub placed_end : (all : List Directive) (input rest : List ℕ) (pieces : List Piece) → Placed all input [] rest pieces → TakesPieces all input pieces
placed_end all input rest pieces so = placed_done all [] input rest pieces so refl

pub placed_ended : (all ds : List Directive) (d : Directive) (input rest here : List ℕ) (pieces : List Piece) → Placed all input (d ∷ ds) rest pieces → chars here ≡ after_blanks (chars rest) → chars here ≡ [] → TakesPieces all input pieces
placed_ended all ds d input rest here pieces so is none = placed_done all (d ∷ ds) input rest pieces so (ended (sym is ∙ none) refl)

pub placed_refused : (all ds : List Directive) (d : Directive) (input rest here : List ℕ) (pieces : List Piece) (p : Piece) → Placed all input (d ∷ ds) rest pieces → chars here ≡ after_blanks (chars rest) → chars here ≢ [] → Refuses d (chars here)
    → IsPiece input p (record { text = []; behind = chars here }) → TakesPieces all input (p ∷ [])
placed_refused all ds d input rest here pieces p so is some refuses piece = record {
  out = Err (chars here);
  takes = so.goes (Err (chars here)) (refused (subst (λ (t : List ℕ). t ≢ []) is some) (subst (Refuses d) is refuses) (ap Err is));
  are = (piece, tt);
  in_order = (omega arith, tt);
}

adjacent : (from : ℕ) (ps : List Piece) → AreInOrder from ps → AllAdjacentBelow (λ (p q : Piece). p.end ≤ q.start) ps (length ps)
adjacent from [] h k d under = absurd (omega arith)
adjacent from (p ∷ []) h k d under = absurd (omega arith)
adjacent from (p ∷ q ∷ ps) h zero d under = h.1.0
adjacent from (p ∷ q ∷ ps) h (suc k) d under =
    let next : suc (k + 1) ≡ suc k + 1 = omega arith in
    subst (λ n. (get_or (q ∷ ps) k d).end ≤ (get_or (p ∷ q ∷ ps) n d).start) next (adjacent p.end (q ∷ ps) h.1 k d (omega arith))

pub scanned_pieces : (input format : List ℕ) (ds : List Directive) (pieces : List Piece) → Cuts format ds → TakesPieces ds input pieces → ScannedPieces input format pieces
scanned_pieces input format ds pieces cut so = record {
  tokens = tokens_of so.out;
  scanned = record { directives = ds; out = so.out; cut = cut; takes = so.takes; tokens_are = refl };
  are = so.are;
  in_order = adjacent 0 pieces so.in_order;
}

pub scanned_texts : (input format : List ℕ) (pieces : List Piece) (texts : List (List ℕ)) → ScannedPieces input format pieces → texts ≡ map (piece_text input) pieces → ScannedTexts (chars input) format (map chars texts)
scanned_texts input format pieces texts so is = (so.tokens, so.scanned, ap (map chars) is ∙ texts_are input pieces so.tokens so.are)

-- the directives so far, and then those of the rest
abbrev pub CutsOn : List ℕ → List ℕ → List Directive → Type 0
CutsOn format rest done = (ds : List Directive) → Cuts rest ds → Cuts format (done ++ ds)

pub cuts_more : (format rest more : List ℕ) (done : List Directive) (d : Directive) → CutsOn format rest done → Spells d (after_blanks rest) more → CutsOn format more (done ++ d ∷ [])
cuts_more format rest more done d so spells ds h = subst (Cuts format) (sym (append_assoc done (d ∷ []) ds)) (so (d ∷ ds) (more, spells, h))

pub cuts_done : (format rest : List ℕ) (done : List Directive) → CutsOn format rest done → NoDirective (after_blanks rest) → Cuts format done
cuts_done format rest done so none = subst (Cuts format) (append-nil done) (so [] none)
