-- What `regex` reads in a pattern, and what it finds, by what its calls ensure.
use Rattle.std.proofs.Common.{cond, leb, ◌≡◌, ◌<◌, ◌≤◌, ◌++◌, ℕ, true, false, List, [], ◌∷◌, take, drop, slice_range, Option, Some, None, All, IsSome, IsSomeAnd, IfSome, option_map, option_and_then, encode_utf8_all, IsUtf8, get_or, append_assoc, refl, sym, ap, subst, ◌∙◌, arith, inl, inr}
use Rattle.std.specs.List.{AllByRecursion}
use Rattle.std.specs.Option.{unwrap_or}
use Rattle.std.specs.Str.{chars}
use Rattle.std.proofs.lemmas.Bool.{le-leb, lt-leb, cond-true, cond-false}
use Rattle.std.proofs.lemmas.List.{get_or_default, take-append-drop}
use Rattle.std.proofs.lemmas.List.Elements.{All-cons, All-weaker}
use Rattle.std.proofs.lemmas.List.Folds.{drop_split}
use Rattle.std.proofs.lemmas.Option.{none-some, same_Some}
use Rattle.std.proofs.lemmas.Str.{chars-append, encodes-chars, IsUtf8-from_ascii}
use Rattle.regex.specs.Patterns.{Re, Match, SameCaptures, Reads, Refuses, find_str, slot_of, span, default_config}
use Rattle.regex.specs.Writes.{both, group_of}
use Rattle.regex.specs.Sources.{IsRefusal}
use Rattle.regex.specs.Failures.{IsRightKind}
use Rattle.regex.specs.Strings.{regex_pattern, match_span, captures_span, IsCapturesOf}
use Rattle.regex.specs.declared.error.Error.{Error}
use Rattle.regex.specs.declared.error.Error.TheVariants.{Syntax}
use Rattle.regex.specs.declared.string.captures.Captures.{Captures}
use Rattle.regex.specs.declared.string.matcher.Match as text_match
use Rattle.regex.specs.declared.string.regex.Regex.{Regex}
use Rattle.regex.proofs.CapturesLemmas.{group_span-zero}
use Rattle.regex.proofs.SearchLemmas.{leftmost_attempt, leftmost_within}
use Rattle.regex.proofs.WritesLemmas.{writes_are_tidy, last_write_has}
use Rattle.regex_syntax.specs.Brackets.{Nested}
use Rattle.regex_syntax.specs.Grammar.{Names, read}
use Rattle.regex_syntax.specs.declared.error.Error as parser
use Rattle.regex_syntax.proofs.CapturesLemmas.{spans, find_str_alike}
use Rattle.scan_fmt.specs.Expressions.{expression, found_in, token_span}
use Rattle.scan_fmt.specs.Scanned.{Token, matched}
use Rattle.scan_fmt.specs.Inner.Built.{anchored, IsBuilt}
use Rattle.scan_fmt.specs.Inner.Found.{AreParts, token_of}
use Rattle.scan_fmt.proofs.Characters.{ascii_from, ascii_same}

-- the text of a pattern
abbrev Opening : List ℕ
Opening = 94 ∷ 40 ∷ 63 ∷ 58 ∷ []

abbrev Closing : List ℕ
Closing = 41 ∷ []

pub anchored_chars : (source pattern : List ℕ) → IsUtf8 pattern → source ≡ Opening ++ (pattern ++ Closing) → chars source ≡ anchored (chars pattern)
anchored_chars source pattern utf8 is =
    let opening : AllByRecursion (λ c. c < 128) Opening = (omega arith, (omega arith, (omega arith, (omega arith, tt)))) in
    let closing : AllByRecursion (λ c. c < 128) Closing = (omega arith, tt) in
    ap chars is ∙ chars-append Opening (pattern ++ Closing) (IsUtf8-from_ascii Opening (ascii_from Opening opening))
    ∙ ap (λ (t : List ℕ). chars Opening ++ t) (chars-append pattern Closing utf8 ∙ ap (λ (t : List ℕ). chars pattern ++ t) (ascii_same Closing closing))
    ∙ ap (λ (t : List ℕ). t ++ (chars pattern ++ Closing)) (ascii_same Opening opening)

-- what is read
abbrev Read : Type 0
Read = Nested Re × Names

abbrev shallow : Read → Option Re
shallow (re, names) = cond (leb re.depth default_config.nest_limit) (Some re.value) None

shallow_is : (x : Read) → x.0.depth ≤ default_config.nest_limit → shallow x ≡ Some x.0.value
shallow_is x fits = cond-true _ (Some x.0.value) None (le-leb x.0.depth default_config.nest_limit fits)

deep_is : (x : Read) → default_config.nest_limit < x.0.depth → shallow x ≡ None
deep_is x deep = cond-false _ (Some x.0.value) None (lt-leb x.0.depth default_config.nest_limit deep)

some_is : (o : Option Re) (x : Re) → o ≡ Some x → IsSome o
some_is o x e = subst IsSome (sym e) refl

is_none : (o : Option Re) → o ≡ None → IsSome o → ⊥
is_none o e is = let bad : false ≡ true = subst IsSome e is in cc

-- a pattern within the limit, whose matches are those of `a`
abbrev Alike : Re → Read → Type 0
Alike a x = (x.0.depth ≤ default_config.nest_limit) × SameCaptures a x.0.value

weaker : (o : Option Read) (P Q : Read → Type 0) → ((x : Read) → P x → Q x) → IsSomeAnd o P → IsSomeAnd o Q
weaker None P Q f p = p
weaker (Some x) P Q f p = f x p

alike_some : (o : Option Read) (a : Re) → IsSomeAnd o (Alike a) → IsSome (option_and_then shallow o)
alike_some None a h = absurd h
alike_some (Some x) a h = some_is (shallow x) x.0.value (shallow_is x h.0)

alike_found : (o : Option Read) (a : Re) (text : List ℕ) → All (λ b. b < 256) text → IsSomeAnd o (Alike a) → option_map spans (find_str a text 0) ≡ option_map spans (option_and_then (λ re. find_str re text 0) (option_and_then shallow o))
alike_found None a text bytes h = absurd h
alike_found (Some x) a text bytes h =
    find_str_alike a x.0.value h.1 text bytes 0 ∙ ap (λ (r : Option Re). option_map spans (option_and_then (λ re. find_str re text 0) r)) (sym (shallow_is x h.0))

none_read : (o : Option Read) → o ≡ None → IsSome (option_and_then shallow o) → ⊥
none_read o e is = is_none (option_and_then shallow o) (ap (option_and_then shallow) e) is

deep_read : (o : Option Read) → IfSome o (λ x. default_config.nest_limit < x.0.depth) → IsSome (option_and_then shallow o) → ⊥
deep_read None h is = is_none None refl is
deep_read (Some x) h is = is_none (shallow x) (deep_is x h) is

-- a built pattern is read
built_alike : (pattern : List ℕ) (regex : Regex) → IsBuilt pattern regex → IsSomeAnd (read default_config (anchored pattern)) (Alike (regex_pattern regex))
unfolding Reads
built_alike pattern regex built =
    subst (λ (t : List ℕ). IsSomeAnd (read default_config t) (Alike (regex_pattern regex))) built.source
    (weaker _ _ (Alike (regex_pattern regex)) (λ x h. (h.0, h.1)) (rw built.config at built.read))

pub built_some : (pattern : List ℕ) (regex : Regex) → IsBuilt pattern regex → IsSome (expression pattern)
built_some pattern regex built = alike_some _ (regex_pattern regex) (built_alike pattern regex built)

-- a pattern that is refused for its syntax isn't read
pub refused_none : (source pattern : List ℕ) (error : Error) (e : parser.Error) → error ≡ Syntax e → IsRefusal default_config source error → IsRightKind default_config source error → chars source ≡ anchored pattern → IsSome (expression pattern) → ⊥
unfolding Refuses
refused_none source pattern error e is refusal kind at some =
    let read_some : IsSome (option_and_then shallow (read default_config (chars source))) = subst (λ (t : List ℕ). IsSome (option_and_then shallow (read default_config t))) (sym at) some in
    elim (refusal e is) [
      | inl memory ↦ subst (IsRightKind default_config source) is kind memory
      | inr (inl none) ↦ none_read (read default_config (chars source)) none read_some
      | inr (inr (why, deep)) ↦ deep_read (read default_config (chars source)) deep read_some
    ]

pub all_bytes : (text : List ℕ) → ((k : ℕ) → get_or text k 0 < 256) → All (λ b. b < 256) text
all_bytes text bytes k d h = rw (get_or_default text k d 0 h) (bytes k)

-- what a built pattern finds is what the pattern finds
finds : (input pattern : List ℕ) (regex : Regex) → IsUtf8 input → All (λ b. b < 256) input → IsBuilt pattern regex → option_map spans (find_str (regex_pattern regex) input 0) ≡ option_map spans (found_in (chars input) pattern)
finds input pattern regex utf8 bytes built =
    alike_found _ (regex_pattern regex) input bytes (built_alike pattern regex built)
    ∙ ap (λ (t : List ℕ). option_map spans (option_and_then (λ re. find_str re t 0) (expression pattern))) (sym (encodes-chars input utf8))

same_none : (o q : Option Match) → option_map spans o ≡ option_map spans q → o ≡ None → q ≡ None
same_none o None e h = refl
same_none o (Some n) e h = absurd (none-some (spans n) (sym (ap (option_map spans) h) ∙ e))

same_some : (o q : Option Match) (m : Match) → option_map spans o ≡ option_map spans q → o ≡ Some m → (n : Match) × (q ≡ Some n) × (spans n ≡ spans m)
same_some o None m e h = absurd (none-some (spans m) (sym e ∙ ap (option_map spans) h))
same_some o (Some n) m e h = (n, refl, same_Some (spans n) (spans m) (sym e ∙ ap (option_map spans) h))

-- the token of an expression, and what it leaves
abbrev pub matched_token : List ℕ → Option Match → Token
matched_token input found = (matched input found).0

abbrev pub after_match : List ℕ → Option Match → List ℕ
after_match input found = (matched input found).1

module _ (input pattern : List ℕ) (regex : Regex) (utf8 : IsUtf8 input) (bytes : All (λ b. b < 256) input) (built : IsBuilt pattern regex) where
  pub finds_none : find_str (regex_pattern regex) input 0 ≡ None → found_in (chars input) pattern ≡ None
  finds_none none = same_none _ _ (finds input pattern regex utf8 bytes built) none

  pub none_token : find_str (regex_pattern regex) input 0 ≡ None → ◌≡◌ {A = Token} (record { text = []; behind = chars input }) (matched_token (chars input) (found_in (chars input) pattern))
  none_token none = ap (matched_token (chars input)) (sym (finds_none none))

  pub none_after : find_str (regex_pattern regex) input 0 ≡ None → chars input ≡ after_match (chars input) (found_in (chars input) pattern)
  none_after none = ap (after_match (chars input)) (sym (finds_none none))

  module _ (m : Match) (found : find_str (regex_pattern regex) input 0 ≡ Some m) where
    alike : (n : Match) × (found_in (chars input) pattern ≡ Some n) × (spans n ≡ spans m)
    alike = same_some _ _ m (finds input pattern regex utf8 bytes built) found

    same_token : token_span alike.0 ≡ token_span m
    same_token = ap (λ (s : ℕ × ℕ × (ℕ → Option ℕ)). unwrap_or (both (s.2 2) (s.2 3)) (s.0, s.1)) alike.2

    same_bytes : encode_utf8_all (chars input) ≡ input
    same_bytes = encodes-chars input utf8

    pub some_token : (token behind : List ℕ) → token ≡ slice_range input (token_span m).0 (token_span m).1 → behind ≡ drop (token_span m).1 input
        → ◌≡◌ {A = Token} (record { text = chars token; behind = chars behind }) (matched_token (chars input) (found_in (chars input) pattern))
    some_token token behind is after =
        ap (λ (t : List ℕ). record { text = chars t; behind = chars behind }) is
        ∙ ap (λ (t : List ℕ). record { text = chars (slice_range input (token_span m).0 (token_span m).1); behind = chars t }) after
        ∙ ap (λ (t : List ℕ). record { text = chars (slice_range t (token_span m).0 (token_span m).1); behind = chars (drop (token_span m).1 t) }) (sym same_bytes)
        ∙ ap (λ (s : ℕ × ℕ). record { text = chars (slice_range (encode_utf8_all (chars input)) s.0 s.1); behind = chars (drop s.1 (encode_utf8_all (chars input))) }) (sym same_token)
        ∙ ap (matched_token (chars input)) (sym alike.1)

    pub some_after : (rest : List ℕ) → rest ≡ drop m.trace.end input → chars rest ≡ after_match (chars input) (found_in (chars input) pattern)
    some_after rest is =
        ap chars is ∙ ap (λ (t : List ℕ). chars (drop m.trace.end t)) (sym same_bytes)
        ∙ ap (λ (s : ℕ × ℕ × (ℕ → Option ℕ)). chars (drop s.1 (encode_utf8_all (chars input)))) (sym alike.2)
        ∙ ap (after_match (chars input)) (sym alike.1)

-- a group ends in its match
both_end : (first last : Option ℕ) (g : ℕ × ℕ) → both first last ≡ Some g → last ≡ Some g.1
both_end None last g e = absurd (none-some g e)
both_end (Some first) None g e = absurd (none-some g e)
both_end (Some first) (Some last) g e = ap (λ (s : ℕ × ℕ). Some s.1) (same_Some (first, last) g e)

group_ends : (text : List ℕ) (re : Re) (m : Match) → find_str re text 0 ≡ Some m → (g : ℕ × ℕ) → group_of m 1 ≡ Some g → g.1 ≤ m.trace.end
unfolding slot_of
group_ends text re m found g is =
    let within = leftmost_within re text true 0 m found in
    let tidy = writes_are_tidy text re m.start m.trace (leftmost_attempt re text true 0 m found).2 in
    let Lies : ℕ × ℕ → Type 0 = λ w. (m.start ≤ w.1) × (w.1 ≤ m.trace.end) × Unit {0} in
    let Ends : ℕ × ℕ → Type 0 = λ w. w.1 ≤ m.trace.end in
    let placed : All Ends m.trace.writes = All-weaker Lies Ends (λ w h. h.1) m.trace.writes tidy.placed in
    last_write_has (λ x. x ≤ m.trace.end) ((0, m.start) ∷ (1, m.trace.end) ∷ m.trace.writes) 3 g.1
    (All-cons Ends (0, m.start) ((1, m.trace.end) ∷ m.trace.writes) within.1 (All-cons Ends (1, m.trace.end) m.trace.writes (omega arith) placed))
    (both_end (slot_of m 2) (slot_of m 3) g is)

-- what the captures say of their match and its first group
pub whole_span : (text : List ℕ) (m : Match) (captures : Captures) (whole : text_match.Match) → IsCapturesOf text m captures → Some (match_span whole) ≡ captures_span captures 0 → match_span whole ≡ span m
whole_span text m captures whole is at = same_Some (match_span whole) (span m) (at ∙ group_span-zero true _ _ _ ∙ ap Some is.1.whole_is)

pub group_span_of : (text : List ℕ) (m : Match) (captures : Captures) (group : Option text_match.Match) → IsCapturesOf text m captures → option_map match_span group ≡ captures_span captures 1 → option_map match_span group ≡ group_of m 1
group_span_of text m captures group is at = at ∙ is.2 1 (omega arith)

pub token_is : (m : Match) (whole : text_match.Match) (group : Option text_match.Match) → match_span whole ≡ span m → option_map match_span group ≡ group_of m 1 → token_of whole group ≡ token_span m
token_is m whole group is at = ap (λ (s : ℕ × ℕ). unwrap_or (option_map match_span group) s) is ∙ ap (λ (o : Option (ℕ × ℕ)). unwrap_or o (span m)) at

pub group_within : (text : List ℕ) (re : Re) (m : Match) (whole : text_match.Match) (group : Option text_match.Match) → find_str re text 0 ≡ Some m → match_span whole ≡ span m → option_map match_span group ≡ group_of m 1 → IfSome group (λ g. g.end ≤ whole.end)
group_within text re m whole None found is at = tt
group_within text re m whole (Some g) found is at = subst (λ (s : ℕ × ℕ). g.end ≤ s.1) (sym is) (group_ends text re m found (match_span g) (sym at))

-- the parts of an input at a token and the end of a match
pub parts_at : (input token behind rest : List ℕ) (start end last : ℕ) → start ≤ end → end ≤ last → token ≡ slice_range input start end → behind ≡ drop end input → rest ≡ drop last input → AreParts input token behind rest
parts_at input token behind rest start end last forward further is after left = record {
  front = take start input;
  whole = sym (take-append-drop start input) ∙ ap (λ (t : List ℕ). take start input ++ t) (drop_split input start end forward ∙ ap (λ (t : List ℕ). slice_range input start end ++ t) (sym after) ∙ ap (λ (t : List ℕ). t ++ behind) (sym is));
  skipped = slice_range input end last;
  beyond = after ∙ drop_split input end last further ∙ ap (λ (t : List ℕ). slice_range input end last ++ t) (sym left);
}

pub no_parts : (input : List ℕ) → AreParts input [] input input
no_parts input = record { front = []; whole = refl; skipped = []; beyond = refl }

pub front_of_parts : (input token behind rest : List ℕ) → AreParts input token behind rest → (front : List ℕ) × (input ≡ front ++ rest)
front_of_parts input token behind rest lies =
    (lies.front ++ (token ++ lies.skipped), lies.whole ∙ ap (λ (t : List ℕ). lies.front ++ t) (ap (λ (t : List ℕ). token ++ t) lies.beyond ∙ sym (append_assoc token lies.skipped rest)) ∙ sym (append_assoc lies.front (token ++ lies.skipped) rest))
