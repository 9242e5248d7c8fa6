-- Two refusals of the job that translates with the same message are the same.
use Rattle.std.proofs.Common.{◌≡◌, ◌<◌, ◌^◌, ℕ, List, [], ◌∷◌, ◌++◌, refl, sym, ap, ◌∙◌, arith, codes, decimal, get_or, append_assoc}
use Rattle.line_job.specs.declared.stop.Stop.{Stop}
use Rattle.line_job.specs.declared.stop.Stop.TheVariants.{Line, NotUtf8, TooLong, ReadFault, WriteFault, NoMemory}
use Rattle.line_job.specs.Told.{line_message, stop_message}
use Rattle.header_lines.specs.declared.cause.LineCause.{LineCause}
use Rattle.header_lines.specs.declared.cause.LineCause.TheVariants.{Header as OfHeader, SourceFormat as OfFormat}
use Rattle.header_lines.specs.Message.{cause_message, NamesSmall as AreSmall}
use Rattle.header_lines.proofs.Decimals.{one_number}
use Rattle.header_lines.proofs.MessageLemmas.{messages_differ as causes_differ}
use Rattle.plan_jobs.specs.declared.cause.TranslateCause.{TranslateCause}
use Rattle.plan_jobs.specs.declared.cause.TranslateCause.TheVariants.{Header, SourceFormat, Element}
use Rattle.plan_jobs.specs.TranslateMessage.{translate_message, NamesSmall, MessagesDiffer}

-- refusals that other jobs have too

abbrev IsShared : Stop TranslateCause → Type 0
IsShared (Line (Element line place)) = ⊥
IsShared _ = Unit {0}

abbrev shared : Stop TranslateCause → Stop LineCause
shared (Line (Header line)) = Line (OfHeader line)
shared (Line (SourceFormat line)) = Line (OfFormat line)
shared (Line (Element line place)) = NoMemory
shared (NotUtf8 line) = NotUtf8 line
shared TooLong = TooLong
shared ReadFault = ReadFault
shared WriteFault = WriteFault
shared NoMemory = NoMemory

abbrev back : Stop LineCause → Stop TranslateCause
back (Line (OfHeader line)) = Line (Header line)
back (Line (OfFormat line)) = Line (SourceFormat line)
back (NotUtf8 line) = NotUtf8 line
back TooLong = TooLong
back ReadFault = ReadFault
back WriteFault = WriteFault
back _ = NoMemory

shared_back : (stop : Stop TranslateCause) → IsShared stop → back (shared stop) ≡ stop
shared_back (Line (Element line place)) is = absurd is
shared_back _ is = refl

shared_text : (stop : Stop TranslateCause) → IsShared stop → stop_message translate_message stop ≡ stop_message cause_message (shared stop)
shared_text (Line (Element line place)) is = absurd is
shared_text _ is = refl

shared_small : (stop : Stop TranslateCause) → IsShared stop → NamesSmall stop → AreSmall (shared stop)
shared_small (Line (Element line place)) is small = absurd is
shared_small _ is small = record { line = small.line; field = omega arith }

shared_differ : (a b : Stop TranslateCause) → IsShared a → IsShared b → NamesSmall a → NamesSmall b → stop_message translate_message a ≡ stop_message translate_message b → a ≡ b
shared_differ a b is also p q e =
    let same : shared a ≡ shared b = causes_differ (shared a) (shared b) (shared_small a is p) (shared_small b also q) (sym (shared_text a is) ∙ e ∙ shared_text b also) in
    sym (shared_back a is) ∙ ap back same ∙ shared_back b also

-- elements

abbrev element_text : ℕ → List ℕ
element_text place = codes "element " ++ (decimal place ++ codes ": no translation")

-- the end of a message that names a line
abbrev ending : List ℕ → List ℕ
ending what = codes ": " ++ (what ++ codes "\n")

-- the text after its first five letters, and after its first ten
after_five : List ℕ → List ℕ
after_five (a ∷ b ∷ c ∷ d ∷ e ∷ rest) = rest
after_five _ = []

after_ten : List ℕ → List ℕ
after_ten (a ∷ b ∷ c ∷ d ∷ e ∷ rest) = after_five rest
after_ten _ = []

-- a message of a line has one line and one end
line_and_end : (m n : ℕ) (a b : List ℕ) → m < 2 ^ 64 → n < 2 ^ 64 → line_message m a ≡ line_message n b → (m ≡ n) × (ending a ≡ ending b)
unfolding after_five
line_and_end m n a b p q e = one_number m n (ending a) (ending b) p q (λ h. absurd (omega (arith, h.0, h.1))) (λ h. absurd (omega (arith, h.0, h.1))) (ap after_five e)

-- the end of a message on an element has one place
one_place : (m n : ℕ) → m < 2 ^ 64 → n < 2 ^ 64 → ending (element_text m) ≡ ending (element_text n) → m ≡ n
unfolding after_five after_ten
one_place m n p q e =
    let untold : List ℕ = codes ": no translation" in
    let texts : (decimal m ++ untold) ++ codes "\n" ≡ (decimal n ++ untold) ++ codes "\n" = ap after_ten e in
    let behind : decimal m ++ (untold ++ codes "\n") ≡ decimal n ++ (untold ++ codes "\n") = sym (append_assoc (decimal m) untold (codes "\n")) ∙ texts ∙ append_assoc (decimal n) untold (codes "\n") in
    (one_number m n (untold ++ codes "\n") (untold ++ codes "\n") p q (λ h. absurd (omega (arith, h.0, h.1))) (λ h. absurd (omega (arith, h.0, h.1))) behind).0

elements_differ : (m n i k : ℕ) → m < 2 ^ 64 → n < 2 ^ 64 → i < 2 ^ 64 → k < 2 ^ 64 → line_message m (element_text i) ≡ line_message n (element_text k) → Line (Element m i) ≡ Line (Element n k)
elements_differ m n i k p q small also e =
    let both = line_and_end m n (element_text i) (element_text k) p q e in
    ap (λ (l : ℕ). Line (Element l i)) both.0 ∙ ap (λ (x : ℕ). Line (Element n x)) (one_place i k small also both.1)

-- an element or something else

third_letter : List ℕ → ℕ
third_letter text = get_or text 2 0

first_letter : List ℕ → ℕ
first_letter text = get_or text 0 0

not_shared : (line place : ℕ) (stop : Stop TranslateCause) → IsShared stop → NamesSmall (Line (Element line place)) → NamesSmall stop → line_message line (element_text place) ≡ stop_message translate_message stop → ⊥
unfolding third_letter first_letter
not_shared line place (Line (Header number)) is p q e =
    let other : 101 ≡ 98 = ap third_letter (line_and_end line number (element_text place) (codes "bad header") p.line q.line e).1 in absurd (omega (arith, other))
not_shared line place (Line (SourceFormat number)) is p q e =
    let other : 101 ≡ 110 = ap third_letter (line_and_end line number (element_text place) (codes "not a printf format") p.line q.line e).1 in absurd (omega (arith, other))
not_shared line place (Line (Element number other)) is p q e = is
not_shared line place (NotUtf8 number) is p q e =
    let other : 101 ≡ 110 = ap third_letter (line_and_end line number (element_text place) (codes "not UTF-8") p.line q.line e).1 in absurd (omega (arith, other))
not_shared line place TooLong is p q e = let other : 108 ≡ 105 = ap first_letter e in absurd (omega (arith, other))
not_shared line place ReadFault is p q e = let other : 108 ≡ 114 = ap first_letter e in absurd (omega (arith, other))
not_shared line place WriteFault is p q e = let other : 108 ≡ 119 = ap first_letter e in absurd (omega (arith, other))
not_shared line place NoMemory is p q e = let other : 108 ≡ 110 = ap first_letter e in absurd (omega (arith, other))

-- refusals that other jobs have, or elements, or one of each
by_kind : (a b : Stop TranslateCause) → NamesSmall a → NamesSmall b → stop_message translate_message a ≡ stop_message translate_message b → a ≡ b
by_kind (Line (Element m i)) (Line (Element n k)) p q e = elements_differ m n i k p.line q.line p.place q.place e
by_kind (Line (Element m i)) b p q e = absurd (not_shared m i b tt p q e)
by_kind a (Line (Element n k)) p q e = absurd (not_shared n k a tt q p (sym e))
by_kind a b p q e = shared_differ a b tt tt p q e

pub messages_differ : MessagesDiffer
messages_differ a b p q e = by_kind a b p q e
