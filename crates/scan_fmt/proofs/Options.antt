-- What holds of a missing value, or of one that is there.
use Rattle.std.proofs.Common.{Option, Some, None, IfNone, IfSome}

pub if_none : {T : Type 0} (r : Option T) (P : Type 0) → P → IfNone r P
if_none None P p = p
if_none (Some x) P p = tt

pub if_none_map : {T : Type 0} (r : Option T) (P Q : Type 0) → (P → Q) → IfNone r P → IfNone r Q
if_none_map None P Q f p = f p
if_none_map (Some x) P Q f p = tt

pub if_some_map : {T : Type 0} (r : Option T) (P Q : T → Type 0) → ((x : T) → P x → Q x) → IfSome r P → IfSome r Q
if_some_map None P Q f p = tt
if_some_map (Some x) P Q f p = f x p
