-- Two refusals with the same message are the same.
use Rattle.std.proofs.Common.{◌≡◌, ◌<◌, ◌^◌, ◌==◌, ℕ, List, [], ◌∷◌, ◌++◌, refl, sym, ap, ◌∙◌, arith, codes, decimal, get_or, if◌then◌else◌, append_assoc}
use Rattle.line_job.specs.declared.stop.Stop.{Stop}
use Rattle.line_job.specs.declared.stop.Stop.TheVariants.{Line, NotUtf8, TooLong, ReadFault, WriteFault, NoMemory}
use Rattle.line_job.specs.Told.{line_message, stop_message}
use Rattle.separation.specs.declared.Refused.TheVariants.{Kind, Lossy, RunsOn}
use Rattle.printer.specs.declared.error.TemplateFault.TheVariants.{Printf, Formatx}
use Rattle.printer.specs.declared.error.RenderFault.{RenderFault}
use Rattle.printer.specs.declared.error.RenderFault.TheVariants.{WrongType, TooManyArgs, NotEnoughArgs, Invalid, KeyError, TypeError, Parse, MissingArgument, UnsupportedTrait}
use Rattle.header_lines.specs.declared.cause.LineCause.{LineCause}
use Rattle.header_lines.specs.declared.cause.LineCause.TheVariants.{Header, SourceFormat, Refused as OfFormat, Template, NotARow, Render}
use Rattle.header_lines.specs.Message.{cause_message, fault_text, NamesSmall, MessagesDiffer}
use Rattle.header_lines.proofs.Decimals.{BeginsApart, one_number}

-- what is wrong with a line
data Wrong : Type 0 where
  header : Wrong
  format : Wrong
  printf_template : Wrong
  formatx_template : Wrong
  no_row : Wrong
  fault : RenderFault → Wrong
  not_utf8 : Wrong

-- what is wrong with a field
data Trouble : Type 0 where
  kind : Trouble
  lossy : Trouble
  runs_on : Trouble

-- what stops a run at no line
data Halt : Type 0 where
  too_long : Halt
  read_fault : Halt
  write_fault : Halt
  no_memory : Halt

data Told : Type 0 where
  of_line : Wrong → ℕ → Told
  of_field : Trouble → ℕ → ℕ → Told
  of_run : Halt → Told

abbrev what : Wrong → List ℕ
what header = codes "bad header"
what format = codes "not a printf format"
what printf_template = codes "not a printf template"
what formatx_template = codes "not a formatx template"
what no_row = codes "not a row"
what (fault f) = fault_text f
what not_utf8 = codes "not UTF-8"

abbrev trouble_text : Trouble → List ℕ
trouble_text kind = codes ": kind"
trouble_text lossy = codes ": lossy"
trouble_text runs_on = codes ": runs on"

abbrev field_text : Trouble → ℕ → List ℕ
field_text trouble field = codes "field " ++ (decimal field ++ trouble_text trouble)

abbrev halted : Halt → List ℕ
halted too_long = codes "input past the limit\n"
halted read_fault = codes "read fault\n"
halted write_fault = codes "write fault\n"
halted no_memory = codes "no memory\n"

abbrev text : Told → List ℕ
text (of_line wrong line) = line_message line (what wrong)
text (of_field trouble field line) = line_message line (field_text trouble field)
text (of_run halt) = halted halt

abbrev told : Stop LineCause → Told
told (Line (Header line)) = of_line header line
told (Line (SourceFormat line)) = of_line format line
told (Line (OfFormat line (Kind field))) = of_field kind field line
told (Line (OfFormat line (Lossy field))) = of_field lossy field line
told (Line (OfFormat line (RunsOn field))) = of_field runs_on field line
told (Line (Template line Printf)) = of_line printf_template line
told (Line (Template line Formatx)) = of_line formatx_template line
told (Line (NotARow line)) = of_line no_row line
told (Line (Render line f)) = of_line (fault f) line
told (NotUtf8 line) = of_line not_utf8 line
told TooLong = of_run too_long
told ReadFault = of_run read_fault
told WriteFault = of_run write_fault
told NoMemory = of_run no_memory

abbrev back : Told → Stop LineCause
back (of_line header line) = Line (Header line)
back (of_line format line) = Line (SourceFormat line)
back (of_line printf_template line) = Line (Template line Printf)
back (of_line formatx_template line) = Line (Template line Formatx)
back (of_line no_row line) = Line (NotARow line)
back (of_line (fault f) line) = Line (Render line f)
back (of_line not_utf8 line) = NotUtf8 line
back (of_field kind field line) = Line (OfFormat line (Kind field))
back (of_field lossy field line) = Line (OfFormat line (Lossy field))
back (of_field runs_on field line) = Line (OfFormat line (RunsOn field))
back (of_run too_long) = TooLong
back (of_run read_fault) = ReadFault
back (of_run write_fault) = WriteFault
back (of_run no_memory) = NoMemory

told_back : (stop : Stop LineCause) → back (told stop) ≡ stop
told_back (Line (Header line)) = refl
told_back (Line (SourceFormat line)) = refl
told_back (Line (OfFormat line (Kind field))) = refl
told_back (Line (OfFormat line (Lossy field))) = refl
told_back (Line (OfFormat line (RunsOn field))) = refl
told_back (Line (Template line Printf)) = refl
told_back (Line (Template line Formatx)) = refl
told_back (Line (NotARow line)) = refl
told_back (Line (Render line f)) = refl
told_back (NotUtf8 line) = refl
told_back TooLong = refl
told_back ReadFault = refl
told_back WriteFault = refl
told_back NoMemory = refl

told_text : (stop : Stop LineCause) → stop_message cause_message stop ≡ text (told stop)
told_text (Line (Header line)) = refl
told_text (Line (SourceFormat line)) = refl
told_text (Line (OfFormat line (Kind field))) = refl
told_text (Line (OfFormat line (Lossy field))) = refl
told_text (Line (OfFormat line (RunsOn field))) = refl
told_text (Line (Template line Printf)) = refl
told_text (Line (Template line Formatx)) = refl
told_text (Line (NotARow line)) = refl
told_text (Line (Render line f)) = refl
told_text (NotUtf8 line) = refl
told_text TooLong = refl
told_text ReadFault = refl
told_text WriteFault = refl
told_text NoMemory = refl

-- the numbers of what is told fit their counters
abbrev Fits : Told → Type 0
Fits (of_line wrong line) = line < 2 ^ 64
Fits (of_field trouble field line) = (line < 2 ^ 64) × (field < 2 ^ 64)
Fits (of_run halt) = Unit {0}

told_fits : (stop : Stop LineCause) → NamesSmall stop → Fits (told stop)
told_fits (Line (Header line)) p = p.line
told_fits (Line (SourceFormat line)) p = p.line
told_fits (Line (OfFormat line (Kind field))) p = (p.line, p.field)
told_fits (Line (OfFormat line (Lossy field))) p = (p.line, p.field)
told_fits (Line (OfFormat line (RunsOn field))) p = (p.line, p.field)
told_fits (Line (Template line Printf)) p = p.line
told_fits (Line (Template line Formatx)) p = p.line
told_fits (Line (NotARow line)) p = p.line
told_fits (Line (Render line f)) p = p.line
told_fits (NotUtf8 line) p = p.line
told_fits TooLong p = tt
told_fits ReadFault p = tt
told_fits WriteFault p = tt
told_fits NoMemory p = tt

-- the text after its first five letters, and after its first eight
after_five : List ℕ → List ℕ
after_five (a ∷ b ∷ c ∷ d ∷ e ∷ rest) = rest
after_five _ = []

after_eight : List ℕ → List ℕ
after_eight (a ∷ b ∷ c ∷ d ∷ e ∷ f ∷ g ∷ h ∷ rest) = rest
after_eight _ = []

first_letter : List ℕ → ℕ
first_letter [] = 0
first_letter (c ∷ cs) = c

-- the end of a message that names a line
abbrev ending : List ℕ → List ℕ
ending what = codes ": " ++ (what ++ codes "\n")

-- a message of a line has one line and one end
line_and_end : (m n : ℕ) (a b : List ℕ) → m < 2 ^ 64 → n < 2 ^ 64 → line_message m a ≡ line_message n b → (m ≡ n) × (ending a ≡ ending b)
unfolding after_five
line_and_end m n a b p q e = one_number m n (ending a) (ending b) p q (λ h. absurd (omega (arith, h.0, h.1))) (λ h. absurd (omega (arith, h.0, h.1))) (ap after_five e)

-- a template's fault, by letters of the end
fault_in : List ℕ → RenderFault
fault_in end = if get_or end 18 0 == 87 then WrongType else (if get_or end 18 0 == 78 then NotEnoughArgs else (if get_or end 18 0 == 73 then Invalid else (if get_or end 18 0 == 75 then KeyError
    else (if get_or end 18 0 == 80 then Parse else (if get_or end 18 0 == 77 then MissingArgument else (if get_or end 18 0 == 85 then UnsupportedTrait
    else (if get_or end 19 0 == 111 then TooManyArgs else TypeError)))))))

-- what is wrong, by letters of the end
wrong_in : List ℕ → Wrong
wrong_in end = if get_or end 2 0 == 98 then header else (if get_or end 2 0 == 116 then fault (fault_in end)
    else (if get_or end 6 0 == 85 then not_utf8 else (if get_or end 8 0 == 114 then no_row else (if get_or end 8 0 == 102 then formatx_template else (if get_or end 15 0 == 102 then format else printf_template)))))

wrong_is : (wrong : Wrong) → wrong_in (ending (what wrong)) ≡ wrong
unfolding wrong_in fault_in
wrong_is header = refl
wrong_is format = refl
wrong_is printf_template = refl
wrong_is formatx_template = refl
wrong_is no_row = refl
wrong_is (fault WrongType) = refl
wrong_is (fault TooManyArgs) = refl
wrong_is (fault NotEnoughArgs) = refl
wrong_is (fault Invalid) = refl
wrong_is (fault KeyError) = refl
wrong_is (fault TypeError) = refl
wrong_is (fault Parse) = refl
wrong_is (fault MissingArgument) = refl
wrong_is (fault UnsupportedTrait) = refl
wrong_is not_utf8 = refl

-- what is wrong with a field, by the third letter
trouble_in : List ℕ → Trouble
trouble_in end = if get_or end 2 0 == 107 then kind else (if get_or end 2 0 == 108 then lossy else runs_on)

trouble_is : (trouble : Trouble) → trouble_in (trouble_text trouble ++ codes "\n") ≡ trouble
unfolding trouble_in
trouble_is kind = refl
trouble_is lossy = refl
trouble_is runs_on = refl

begins_apart : (trouble : Trouble) → BeginsApart (trouble_text trouble ++ codes "\n")
begins_apart kind = λ h. absurd (omega (arith, h.0, h.1))
begins_apart lossy = λ h. absurd (omega (arith, h.0, h.1))
begins_apart runs_on = λ h. absurd (omega (arith, h.0, h.1))

-- the end of a message on a field has one field and one trouble
field_and_trouble : (a b : Trouble) (m n : ℕ) → m < 2 ^ 64 → n < 2 ^ 64 → ending (field_text a m) ≡ ending (field_text b n) → (m ≡ n) × (a ≡ b)
unfolding after_eight
field_and_trouble a b m n p q e =
    let texts : (decimal m ++ trouble_text a) ++ codes "\n" ≡ (decimal n ++ trouble_text b) ++ codes "\n" = ap after_eight e in
    let behind : decimal m ++ (trouble_text a ++ codes "\n") ≡ decimal n ++ (trouble_text b ++ codes "\n") = sym (append_assoc (decimal m) (trouble_text a) (codes "\n")) ∙ texts ∙ append_assoc (decimal n) (trouble_text b) (codes "\n") in
    let both = one_number m n (trouble_text a ++ codes "\n") (trouble_text b ++ codes "\n") p q (begins_apart a) (begins_apart b) behind in
    (both.0, sym (trouble_is a) ∙ ap trouble_in both.1 ∙ trouble_is b)

third_letter : List ℕ → ℕ
third_letter text = get_or text 2 0

-- no other message of a line says `field`
no_field : (wrong : Wrong) (trouble : Trouble) (field : ℕ) → ending (what wrong) ≡ ending (field_text trouble field) → ⊥
unfolding third_letter
no_field header trouble field e = let other : 98 ≡ 102 = ap third_letter e in absurd (omega (arith, other))
no_field format trouble field e = let other : 110 ≡ 102 = ap third_letter e in absurd (omega (arith, other))
no_field printf_template trouble field e = let other : 110 ≡ 102 = ap third_letter e in absurd (omega (arith, other))
no_field formatx_template trouble field e = let other : 110 ≡ 102 = ap third_letter e in absurd (omega (arith, other))
no_field no_row trouble field e = let other : 110 ≡ 102 = ap third_letter e in absurd (omega (arith, other))
no_field (fault WrongType) trouble field e = let other : 116 ≡ 102 = ap third_letter e in absurd (omega (arith, other))
no_field (fault TooManyArgs) trouble field e = let other : 116 ≡ 102 = ap third_letter e in absurd (omega (arith, other))
no_field (fault NotEnoughArgs) trouble field e = let other : 116 ≡ 102 = ap third_letter e in absurd (omega (arith, other))
no_field (fault Invalid) trouble field e = let other : 116 ≡ 102 = ap third_letter e in absurd (omega (arith, other))
no_field (fault KeyError) trouble field e = let other : 116 ≡ 102 = ap third_letter e in absurd (omega (arith, other))
no_field (fault TypeError) trouble field e = let other : 116 ≡ 102 = ap third_letter e in absurd (omega (arith, other))
no_field (fault Parse) trouble field e = let other : 116 ≡ 102 = ap third_letter e in absurd (omega (arith, other))
no_field (fault MissingArgument) trouble field e = let other : 116 ≡ 102 = ap third_letter e in absurd (omega (arith, other))
no_field (fault UnsupportedTrait) trouble field e = let other : 116 ≡ 102 = ap third_letter e in absurd (omega (arith, other))
no_field not_utf8 trouble field e = let other : 110 ≡ 102 = ap third_letter e in absurd (omega (arith, other))

halt_in : ℕ → Halt
halt_in letter = if letter == 105 then too_long else (if letter == 114 then read_fault else (if letter == 119 then write_fault else no_memory))

halt_is : (halt : Halt) → halt_in (first_letter (halted halt)) ≡ halt
unfolding halt_in first_letter
halt_is too_long = refl
halt_is read_fault = refl
halt_is write_fault = refl
halt_is no_memory = refl

-- no message of a run begins as those of lines do
no_line : (line : ℕ) (a : List ℕ) (halt : Halt) → line_message line a ≡ halted halt → ⊥
unfolding first_letter
no_line line a too_long e = let other : 108 ≡ 105 = ap first_letter e in absurd (omega (arith, other))
no_line line a read_fault e = let other : 108 ≡ 114 = ap first_letter e in absurd (omega (arith, other))
no_line line a write_fault e = let other : 108 ≡ 119 = ap first_letter e in absurd (omega (arith, other))
no_line line a no_memory e = let other : 108 ≡ 110 = ap first_letter e in absurd (omega (arith, other))

texts_differ : (s t : Told) → Fits s → Fits t → text s ≡ text t → s ≡ t
texts_differ (of_line a m) (of_line b n) p q e =
    let both = line_and_end m n (what a) (what b) p q e in
    let same : a ≡ b = sym (wrong_is a) ∙ ap wrong_in both.1 ∙ wrong_is b in
    ap (λ (w : Wrong). of_line w m) same ∙ ap (of_line b) both.0
texts_differ (of_line a m) (of_field b k n) p q e = absurd (no_field a b k (line_and_end m n (what a) (field_text b k) p q.0 e).1)
texts_differ (of_line a m) (of_run b) p q e = absurd (no_line m (what a) b e)
texts_differ (of_field a i m) (of_line b n) p q e = absurd (no_field b a i (sym (line_and_end m n (field_text a i) (what b) p.0 q e).1))
texts_differ (of_field a i m) (of_field b k n) p q e =
    let both = line_and_end m n (field_text a i) (field_text b k) p.0 q.0 e in
    let inner = field_and_trouble a b i k p.1 q.1 both.1 in
    ap (λ (t : Trouble). of_field t i m) inner.1 ∙ ap (λ (f : ℕ). of_field b f m) inner.0 ∙ ap (of_field b k) both.0
texts_differ (of_field a i m) (of_run b) p q e = absurd (no_line m (field_text a i) b e)
texts_differ (of_run a) (of_line b n) p q e = absurd (no_line n (what b) a (sym e))
texts_differ (of_run a) (of_field b k n) p q e = absurd (no_line n (field_text b k) a (sym e))
texts_differ (of_run a) (of_run b) p q e = ap of_run (sym (halt_is a) ∙ ap (λ (t : List ℕ). halt_in (first_letter t)) e ∙ halt_is b)

pub messages_differ : MessagesDiffer
messages_differ a b p q e =
    sym (told_back a) ∙ ap back (texts_differ (told a) (told b) (told_fits a p) (told_fits b q) (sym (told_text a) ∙ e ∙ told_text b)) ∙ told_back b
