-- What a new reader over known bytes has left.
use Rattle.std.proofs.Common.{◌≡◌, ◌<◌, ◌≤◌, ◌+◌, ◌-◌, ◌^◌, ◌++◌, ℕ, Bool, true, false, List, [], length, drop, Option, Some, Result, refl, sym, ◌∙◌, ap, subst, arith}
use Rattle.std.specs.Prelude.{if◌then◌else◌, IsUtf8}
use Rattle.std.specs.List.{All}
use Rattle.edge_io.specs.Ends.{last_count}
use Rattle.edge_io.specs.Supply.{Supply}
use Rattle.edge_io.specs.Memory.{source_rest, source_faults}
use Rattle.edge_io.specs.declared.memory.MemSource.{MemSource}
use Rattle.whiteread.specs.Words.{Words, words}
use Rattle.whiteread.specs.Lines.{lines_of}
use Rattle.whiteread.specs.Located.{Located}
use Rattle.whiteread.specs.Reading.{Reading, ReadCall}
use Rattle.whiteread.specs.ReaderState.{reader_source, reader_limit, reader_taken, reader_past, reader_waiting, reader_line, reader_passed, reader_faults, fault_counts}
use Rattle.whiteread.specs.ReaderState.ReaderWords.{words_of_lines, whole_within, reader_left, reader_stream}
use Rattle.whiteread.specs.ReaderState.ReaderCalls.{TellsCall}
use Rattle.whiteread.specs.declared.reader.Reader.{Reader}
use Rattle.whiteread.specs.declared.stream.error.IoFault.{IoFault}
use Rattle.whiteread.specs.declared.stream.error.IoFault.TheVariants.{ReadFault, NotUtf8, TooLong, CannotOpen}
use Rattle.reader_laws.specs.Good.{ContinuesGood}

abbrev pub supply : Supply MemSource
supply = record { rest = λ s. Some (source_rest s); given = λ s. s.at; faults = λ s. s.faults; reference = λ _. 0 }

-- what `Reader::new` says
pub record IsFresh (source : MemSource) (limit : ℕ) (r : Reader MemSource) : Type 0 where
  pub source_is : reader_source r ≡ source
  pub limit_is : reader_limit r ≡ limit
  pub taken : reader_taken r ≡ 0
  pub past : reader_past r ≡ false
  pub waiting : reader_waiting r ≡ []
  pub line : reader_line r ≡ []
  pub passed : reader_passed r ≡ 0
  pub faults : reader_faults supply r ≡ fault_counts (source_faults source) 0 0

abbrev left_words : ℕ → List ℕ → Bool → ℕ → List ℕ → List ℕ → Words
left_words passed line past room waiting bytes = words (drop passed line) ++ (if past then [] else words_of_lines (lines_of (whole_within room waiting bytes)))

-- the words that a new reader has left
abbrev pub fresh_words : ℕ → List ℕ → Words
fresh_words limit bytes = left_words 0 [] false (limit - 0) [] bytes

pub fresh_left : (source : MemSource) (limit : ℕ) (r : Reader MemSource) (bytes : List ℕ) → IsFresh source limit r → source_rest source ≡ bytes → reader_left supply r ≡ Some (fresh_words limit bytes)
fresh_left source limit r bytes fresh is =
    let room = reader_limit r - reader_taken r in
    let known : source_rest (reader_source r) ≡ bytes = ap source_rest fresh.source_is ∙ is in
    ap (λ (l : List ℕ). Some (left_words (reader_passed r) (reader_line r) (reader_past r) room (reader_waiting r) l)) known
    ∙ ap (λ (n : ℕ). Some (left_words n (reader_line r) (reader_past r) room (reader_waiting r) bytes)) fresh.passed
    ∙ ap (λ (l : List ℕ). Some (left_words 0 l (reader_past r) room (reader_waiting r) bytes)) fresh.line
    ∙ ap (λ (b : Bool). Some (left_words 0 [] b room (reader_waiting r) bytes)) fresh.past
    ∙ ap (λ (n : ℕ). Some (left_words 0 [] false (n - reader_taken r) (reader_waiting r) bytes)) fresh.limit_is
    ∙ ap (λ (n : ℕ). Some (left_words 0 [] false (limit - n) (reader_waiting r) bytes)) fresh.taken
    ∙ ap (λ (l : List ℕ). Some (left_words 0 [] false (limit - 0) l bytes)) fresh.waiting

none_counted : (fault : IoFault) → fault_counts 0 0 0 fault < last_count
none_counted ReadFault = omega arith
none_counted NotUtf8 = omega arith
none_counted TooLong = omega arith
none_counted CannotOpen = omega arith

pub fresh_answer : {T : Type 0} (reading : Reading T) (cheap : Bool) (source : MemSource) (limit : ℕ) (old new : Reader MemSource) (bytes : List ℕ) (result : Result T Located)
    → IsFresh source limit old → source_rest source ≡ bytes → length bytes ≤ limit → All IsUtf8 (lines_of bytes) → source_faults source ≡ 0 → TellsCall (ReadCall (reader_stream supply) reading) cheap old result new
    → source_faults (reader_source new) ≡ 0 → ContinuesGood supply reading cheap (fresh_words limit bytes) result
fresh_answer reading cheap source limit old new bytes result fresh is within utf8 clean told still = record {
  old = old;
  new = new;
  good = record {
    bytes = bytes;
    told = ap (λ (l : List ℕ). Some l) (ap source_rest fresh.source_is ∙ is);
    within = omega (arith, within, fresh.limit_is, fresh.taken);
    not_past = fresh.past;
    utf8 = subst (λ (l : List ℕ). All IsUtf8 (lines_of (l ++ bytes))) (sym fresh.waiting) utf8;
  };
  left = fresh_left source limit old bytes fresh is;
  told = told;
  held = still ∙ sym (ap source_faults fresh.source_is ∙ clean);
  counting = λ fault. let none = none_counted fault in let same : reader_faults supply old fault ≡ fault_counts 0 0 0 fault = ap (λ (f : IoFault → ℕ). f fault) (fresh.faults ∙ ap (λ (n : ℕ). fault_counts n 0 0) clean) in omega (arith, none, same);
}
