-- What the texts of a map name.
use Rattle.std.proofs.Common.{◌≡◌, ℕ, Bool, true, false, List, [], ◌∷◌, map, bytes_eq, refl, ap, ◌∙◌, sym, if◌then◌else◌, Option, Some, None}
use Rattle.std.proofs.Math.Bool.{cond}
use Rattle.std.proofs.Math.Path.{fun_ext}
use Rattle.std.proofs.lemmas.Map.Text.{is_eq-slice_cmp, btree_map_updates_text}
use Rattle.std.proofs.lemmas.Slice.Eq.{bytes_eq-Decides}
use Rattle.std.specs.Prelude.{String, string_bytes, is_some}
use Rattle.std.proofs.Math.Bool.{true≢false}
use Rattle.std.specs.Option.{option_or}
use Rattle.std.specs.Ordering.{is_eq, nat_cmp}
use Rattle.std.specs.Cmp.Lexicographic.{slice_cmp}
use Rattle.std.specs.String.{string_cmp}
use Rattle.std.specs.Map.{lookup}
use Rattle.std.specs.BTreeMap.{BTreeMap, UpdatesBy, is_at}
use Rattle.formatx.specs.Scene.{named, with_name}

-- the entries of a map as names and positions
abbrev pub pairs : {Y : Type 0} → List (String Y × ℕ) → List (List ℕ × ℕ)
pairs entries = map (λ e. (string_bytes e.0, e.1)) entries

-- a text names the same as the map has at it
pub named_pairs : {Y : Type 0} (text : List ℕ) (es : List (String Y × ℕ)) → named (pairs es) text ≡ lookup (is_at (λ k. slice_cmp nat_cmp text (string_bytes k))) es
named_pairs text [] = refl
named_pairs text (e ∷ es) =
    ap (λ (b : Bool). cond b (Some e.1) (named (pairs es) text)) (sym (is_eq-slice_cmp text (string_bytes e.0)))
    ∙ ap (λ (rest : Option ℕ). cond (is_eq (slice_cmp nat_cmp text (string_bytes e.0))) (Some e.1) rest) (named_pairs text es)

pub not_some : (o : Option ℕ) → is_some o ≡ false → o ≡ None
not_some None h = refl
not_some (Some x) h = absurd (true≢false h)

kept : (o : Option ℕ) (index : ℕ) (b : Bool) → (b ≡ true → o ≡ None → ⊥) → o ≡ option_or o (if b then Some index else None)
kept (Some x) index b h = refl
kept None index true h = absurd (h refl refl)
kept None index false h = refl

-- a name that is there keeps its position
pub name_there : (names : List ℕ → Option ℕ) (name : List ℕ) (index : ℕ) → (names name ≡ None → ⊥) → names ≡ with_name names name index
name_there names name index there =
    fun_ext (λ text. kept (names text) index (bytes_eq name text) (λ equal none. there (ap names ((bytes_eq-Decides name text).0 equal) ∙ none)))

put : (o : Option ℕ) (index : ℕ) (b : Bool) → (b ≡ true → o ≡ None) → cond b (Some index) o ≡ option_or o (if b then Some index else None)
put o index true h = rw (h refl) refl
put None index false h = refl
put (Some x) index false h = refl

-- one name more
pub name_added : {Y : Type 0} (old new : BTreeMap (String Y) ℕ) (name : List ℕ) (index : ℕ) → named (pairs old.entries) name ≡ None → UpdatesBy string_cmp (λ k. slice_cmp nat_cmp name (string_bytes k)) old new (Some index)
    → named (pairs new.entries) ≡ with_name (named (pairs old.entries)) name index
name_added old new name index none updates = fun_ext (λ text.
    named_pairs text new.entries
    ∙ btree_map_updates_text name old new (Some index) updates text
    ∙ ap (λ (o : Option ℕ). cond (bytes_eq name text) (Some index) o) (sym (named_pairs text old.entries))
    ∙ put (named (pairs old.entries) text) index (bytes_eq name text) (λ equal. ap (named (pairs old.entries)) (sym ((bytes_eq-Decides name text).0 equal)) ∙ none))
