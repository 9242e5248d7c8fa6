use Rattle.std.proofs.Common.{◌≡◌, ◌∙◌, ap, sym, List, ℕ, take, drop, arith, subst}
use Rattle.std.specs.Str.{chars}
use Rattle.std.specs.Str.Parse.{AllDigits}
use Rattle.scan_fmt.specs.Scanned.{IsLongest}
use Rattle.scan_fmt.specs.Grammar.{limit_of}
use Rattle.scan_fmt.proofs.Characters.{ascii_cut, ascii_longest, ascii_same}
use Rattle.scan_fmt.proofs.Digits.{digits_ascii}
use Rattle.scan_fmt.proofs.directive.limit.Goals as goal

longest : (bytes text : List ℕ) (n : ℕ) → bytes ≡ text → IsLongest (AllDigits 10) bytes (take n bytes) (drop n bytes) → IsLongest (AllDigits 10) text (take n text) (drop n text)
longest bytes text n e long = subst (λ (t : List ℕ). IsLongest (AllDigits 10) t (take n t) (drop n t)) e long

pub split_at-requires : goal.split_at-requires
split_at-requires c =
    let long = longest c.as_bytes.result.now c.args.text.now c.digits_len.result c.as_bytes.ensures.value c.digits_len.ensures.longest in
    ascii_cut c.args.text.now c.digits_len.result c.utf8.text (omega (arith, c.as_bytes.ensures.len)) (digits_ascii 10 _ (omega arith) long.shape)

pub returns : goal.returns
returns c =
    let text = c.args.text.now in
    let n = c.digits_len.result in
    let long = longest c.as_bytes.result.now text n c.as_bytes.ensures.value c.digits_len.ensures.longest in
    let whole = ascii_longest (AllDigits 10) text (take n text) (drop n text) (λ t h. digits_ascii 10 t (omega arith) h) c.utf8.text long in (
      take n text,
      subst (λ (r : List ℕ). IsLongest (AllDigits 10) (chars text) (take n text) (chars r)) (sym c.split_at.ensures.back)
          (subst (λ (f : List ℕ). IsLongest (AllDigits 10) (chars text) f (chars (drop n text))) (ascii_same (take n text) (digits_ascii 10 (take n text) (omega arith) long.shape)) whole),
      c.limit_of.ensures ∙ ap limit_of c.split_at.ensures.front,
    )
