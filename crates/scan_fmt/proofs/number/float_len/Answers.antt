use Rattle.std.proofs.Common.{◌+◌, List, ℕ, take, drop}
use Rattle.std.specs.Str.Parse.{AllDigits}
use Rattle.std.proofs.lemmas.List.{drop-drop, take_rest}
use Rattle.std.proofs.Math.Seq.{take-add}
use Rattle.scan_fmt.specs.Scanned.{IsLongest, Optionally, IsSigned}
use Rattle.scan_fmt.specs.Inner.Found.{IsFloat}
use Rattle.scan_fmt.proofs.Digits.{float}
use Rattle.scan_fmt.proofs.number.float_len.Goals as goal

joined : (text : List ℕ) (m n k : ℕ) → IsLongest IsSigned text (take m text) (drop m text) → IsLongest (Optionally 46 (AllDigits 10)) (drop m text) (take n (drop m text)) (drop n (drop m text))
    → IsLongest (Optionally 101 IsSigned) (drop (m + n) text) (take k (drop (m + n) text)) (drop k (drop (m + n) text)) → IsLongest IsFloat text (take ((m + n) + k) text) (drop ((m + n) + k) text)
joined text m n k one two three =
    rw (take-add (m + n) k text, take-add m n text, ← drop-drop k (m + n) text)
    (float text (take m text) (drop m text) (take n (drop m text)) (drop (m + n) text) (take k (drop (m + n) text)) (drop k (drop (m + n) text)) one (rw (drop-drop n m text) at two) three)

pub returns-clause-longest : goal.returns-clause-longest
returns-clause-longest c =
    let text = c.args.bytes.now in
    let m = c.signed_len-whole.result in
    let n = c.fraction_len.result in
    joined text m n c.exponent_len.result c.signed_len-whole.ensures.longest (rw (take_rest text m) at c.fraction_len.ensures.longest) (rw (take_rest text (m + n)) at c.exponent_len.ensures.longest)
