-- Where the job that translates stands, by what it keeps.
use Rattle.std.specs.Prelude.{string_bytes}
use Rattle.header_lines.specs.Read.{fields_of, heading_of}
use Rattle.plan_jobs.specs.declared.translate.State.{State}
use Rattle.plan_jobs.specs.declared.translate.State.TheVariants.{Heading, Format, Translated}
use Rattle.plan_jobs.specs.Translate.{TranslateStage, heading_next, format_next, translated_to}

-- the stage that the state is at
abbrev pub stage_of : State → TranslateStage
stage_of (Heading target heading) = heading_next target (heading_of heading)
stage_of (Format target fields) = format_next target (fields_of fields)
stage_of (Translated template) = translated_to (string_bytes template)
