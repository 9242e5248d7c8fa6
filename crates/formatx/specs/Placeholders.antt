-- The placeholder that a text begins with, and what follows it, or the first fault in it.
use Rattle.std.specs.Prelude.{ℕ, Bool, ◌&&◌, ◌||◌, List, length, slice_index, drop, codes, ◌==◌, if◌then◌else◌, Ok, Err}
use Rattle.std.specs.Char.{is_ascii_digit}
use Rattle.std.specs.Str.{byte}
use Rattle.formatx.specs.Fault.{unreadable, ◌>>=◌, between}
use Rattle.formatx.specs.Words.{begins, after, is_word_start, is_word}
use Rattle.formatx.specs.Spans.{no_options}
use Rattle.formatx.specs.Options.{Read, fill_align_of, sign_of, zero_of, number_in, count_of, precision_of, type_of}
use Rattle.formatx.specs.declared.ast.Argument.{Argument}
use Rattle.formatx.specs.declared.ast.Argument.TheVariants.{Implicit, Positional, Named}
use Rattle.formatx.specs.declared.ast.FormatSpec.{FormatSpec}
use Rattle.formatx.specs.declared.ast.Placeholder.{Placeholder}

-- `}` or `:`, one of which follows an argument
abbrev pub follows_argument : List ℕ → Bool
follows_argument text = begins text (byte "}") || begins text (byte ":")

-- an argument: nothing, digits or an identifier
unfoldable pub argument_of : ℕ → List ℕ → Read Argument
argument_of size text =
    let after_digits = after is_ascii_digit text in
    let after_word = after is_word text in
    if length text == 0 then Err (unreadable (between size text text) (codes "unexpected end of format string")) else
    (if follows_argument text then Ok (Implicit, text) else
    (if is_ascii_digit (slice_index text 0) && follows_argument after_digits
    then (number_in size text (codes "invalid positional argument: ") >>= λ n. Ok (Positional n, after_digits)) else
    (if is_word_start (slice_index text 0) && follows_argument after_word then Ok (Named (between size text after_word), after_word)
    else Err (unreadable (between size text (drop 1 text)) (codes "invalid placeholder argument")))))

-- the parts of a specification in their order; `#` is a part of its own
unfoldable pub options_of : ℕ → List ℕ → Read FormatSpec
options_of size text =
    let filled = fill_align_of text in
    let signed = sign_of filled.2 in
    let hash = begins signed.1 (byte "#") in
    let zeroed = zero_of (if hash then drop 1 signed.1 else signed.1) in
    count_of size zeroed.1 >>= λ width.
    precision_of size width.1 >>= λ precise.
    type_of size precise.1 >>= λ typed.
    Ok (record { fill = filled.0; align = filled.1; sign = signed.0; alternate = hash; zero_pad = zeroed.0; width = width.0; precision = precise.0; format_type = typed.0 }, typed.1)

-- `:` and a specification, if it is there
unfoldable pub spec_of : ℕ → List ℕ → Read FormatSpec
spec_of size text = if begins text (byte ":") then options_of size (drop 1 text) else Ok (no_options, text)

-- the placeholder whose `{` the text begins with; its `}` follows the parts
unfoldable pub placeholder_of : ℕ → List ℕ → Read Placeholder
placeholder_of size text =
    argument_of size (drop 1 text) >>= λ argument.
    spec_of size argument.1 >>= λ spec.
    if begins spec.1 (byte "}")
    then Ok (record { argument = argument.0; spec = spec.0; span = between size text (drop 1 spec.1) }, drop 1 spec.1)
    else Err (unreadable (between size text spec.1) (codes "unmatched `{`"))
