-- A line in front of the format says one thing, or is refused for one cause, and never both.
use Rattle.std.proofs.Common.{◌≡◌, ℕ, List, [], sym, ap, ◌∙◌, inl, inr, Result, Err}
use Rattle.values.specs.declared.kind.Kind.{Kind}
use Rattle.line_job.specs.declared.job.Refusal.{Refusal}
use Rattle.line_job.specs.declared.job.Refusal.TheVariants.{Line, NoMemory}
use Rattle.line_job.specs.Refusal.{IfRefused}
use Rattle.header_lines.specs.declared.cause.LineCause.{LineCause}
use Rattle.header_lines.specs.declared.heading.Version.TheVariants.{First}
use Rattle.header_lines.specs.Headers.{RefusesKinds}
use Rattle.header_lines.specs.Heading.{IsSecondVersion, Heading, first_next, kinds_next, names_next, Headed, more, format_next, KeepsHeading, RefusesHeading}
use Rattle.header_lines.proofs.KindWords.{one_kinds, second_names_none}

pub one_headed : (heading : Heading) (line : List ℕ) (a b : Headed) → KeepsHeading heading line a → KeepsHeading heading line b → a ≡ b
one_headed first_next line a b (inl p) (inl q) = p.1 ∙ sym q.1
one_headed first_next line a b (inl p) (inr (kinds, named, d)) = absurd (second_names_none line kinds p.0 named)
one_headed first_next line a b (inr (kinds, named, e)) (inl q) = absurd (second_names_none line kinds q.0 named)
one_headed first_next line a b (inr (kinds, named, e)) (inr (others, too, d)) =
    e ∙ ap (λ (k : List Kind). format_next (record { version = First; kinds = k; names = [] })) (one_kinds line kinds others named too) ∙ sym d
one_headed kinds_next line a b (kinds, named, e) (others, too, d) = e ∙ ap (λ (k : List Kind). more (names_next k)) (one_kinds line kinds others named too) ∙ sym d
one_headed (names_next kinds) line a b p q = p.1 ∙ sym q.1

-- a first line that is neither `#2` nor kinds is refused
refuses_first : (number : ℕ) (line : List ℕ) (why : LineCause) → ¬ IsSecondVersion line → RefusesKinds number line why → RefusesHeading first_next number line why
refuses_first number line why other refused =
    (λ headed kept. elim kept [ inl second ↦ other second.0 | inr named ↦ (let (kinds, is, _) = named in refused.0 kinds is) ], refused.1)

abbrev pub not_headed : Refusal LineCause → Result Unit (Refusal LineCause)
not_headed why = Err why

-- the refusal of such a line's kinds, as that of the line
pub refuses_first_if : (number : ℕ) (line : List ℕ) (why : Refusal LineCause) → ¬ IsSecondVersion line → IfRefused (not_headed why) (RefusesKinds number line) → IfRefused (not_headed why) (RefusesHeading first_next number line)
refuses_first_if number line (Line cause) other refused = refuses_first number line cause other refused
refuses_first_if number line NoMemory other refused = tt
