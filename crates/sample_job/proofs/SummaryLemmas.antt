-- What a success of the rewriting job leaves in a sink in memory.
use Rattle.std.proofs.Common.{◌≡◌, ℕ, List, [], sym, subst, Option, Some, Ok, IfSome}
use Rattle.std.specs.Io.KnownBytes.{IsAtEnd, Appends}
use Rattle.line_job.specs.Ends.{Seen, SourceState, SinkState, Took}
use Rattle.rewriting.specs.Reformats.{Reformats, WritesAll}
use Rattle.rewriting.specs.Rewritten.{IsRewritten}

-- an empty sink holds what is written for the bytes of the source
pub holds_rewritten : (bytes held : List ℕ) (limit n : ℕ) (input : Seen SourceState) (output : Seen SinkState) → input.before.rest ≡ Some bytes → output.before.held ≡ Some [] → output.after.held ≡ Some held
    → Reformats limit input output (Ok n) → IsRewritten bytes held
holds_rewritten bytes held limit n input output rest empty full reformats =
    let all : WritesAll input output = reformats.rewritten in
    let known : IsAtEnd input.after.rest × ((text : List ℕ) × IsRewritten bytes text × Took output text) =
    subst (λ (o : Option (List ℕ)). IfSome o (λ xs. IsAtEnd input.after.rest × ((text : List ℕ) × IsRewritten xs text × Took output text))) rest all in
    let text : List ℕ = known.1.0 in
    let took : Appends (Some []) (Some held) text = subst (λ (o : Option (List ℕ)). Appends o (Some held) text) empty (subst (λ (o : Option (List ℕ)). Appends output.before.held o text) full known.1.2) in
    subst (IsRewritten bytes) (sym took) known.1.1
