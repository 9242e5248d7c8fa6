-- The scene of a call whose parameters are kept together.
use Rattle.formatx.specs.Values.{Meaning}
use Rattle.formatx.specs.Scene.{Scene, scene_over}
use Rattle.formatx.specs.declared.format.Input.{Input}

-- the scene of a call whose parameters are kept together
abbrev pub scene_of : {V : Type 0} → (V → Meaning) → Input V → Scene
scene_of meaning input = scene_over meaning input.source.now input.args.now input.names.now input.strict
