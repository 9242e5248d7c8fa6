use Rattle.std.proofs.Common.{◌≡◌, ◌+◌, suc, arith, refl, subst, take, drop}
use Rattle.std.proofs.lemmas.List.{take_rest}
use Rattle.scan_fmt.specs.Scanned.{IsLongest}
use Rattle.scan_fmt.specs.Inner.Found.{IsPrefixed}
use Rattle.scan_fmt.proofs.Digits.{prefixed_0x, prefixed_x, prefixed_bare}
use Rattle.scan_fmt.proofs.number.prefixed_len.Goals as goal

pub returns-then-begins_0x-clause-longest : goal.returns-then-begins_0x-clause-longest
returns-then-begins_0x-clause-longest c =
    let two : suc (suc c.digits_len.result) ≡ 2 + c.digits_len.result = omega arith in
    subst (λ n. IsLongest IsPrefixed c.args.bytes.now (take n c.args.bytes.now) (drop n c.args.bytes.now)) two
    (prefixed_0x c.args.bytes.now c.digits_len.result (cc (c.if-begins_0x.ensures)) (rw (take_rest c.args.bytes.now 2) at c.digits_len.ensures.longest))

pub returns-then-begins-clause-longest : goal.returns-then-begins-clause-longest
returns-then-begins-clause-longest c =
    let one : suc c.digits_len-then-begins.result ≡ 1 + c.digits_len-then-begins.result = omega arith in
    subst (λ n. IsLongest IsPrefixed c.args.bytes.now (take n c.args.bytes.now) (drop n c.args.bytes.now)) one
    (prefixed_x c.args.bytes.now c.digits_len-then-begins.result (c.if-begins.ensures.0 refl) (rw (take_rest c.args.bytes.now 1) at c.digits_len-then-begins.ensures.longest))

pub returns-else-begins-clause-longest : goal.returns-else-begins-clause-longest
returns-else-begins-clause-longest c =
    prefixed_bare c.args.bytes.now _ _ (cc (c.if-begins_0x.ensures)) (λ at. let bad = c.if-begins.ensures.1 at in cc) c.digits_len-else-begins.ensures.longest
