-- Two versions, and what is told of them.
use Rattle.std.proofs.Common.{Bor, MatchOption, ◌≡◌, ◌∙◌, ◌<◌, ◌≤◌, ◌++◌, ◌&&◌, ◌||◌, ◌∷◌, [], ℕ, Bool, List, None, Option, Some, ap, ap₂, append_assoc, false, if◌then◌else◌, length, map, refl, sym, true}
use Rattle.std.specs.List.{HoldsAt, slice_get}
use Rattle.std.specs.Option.{option_copied, option_map}
use Rattle.std.proofs.lemmas.Bool.{or_parts}
use Rattle.std.proofs.lemmas.List.{append-nil}
use Rattle.std.proofs.lemmas.List.Elements.{All-cons, All-nil}
use Rattle.std.proofs.lemmas.Option.{slice_get-map, slice_get_past, slice_get_read}
use Rattle.idl_changes.specs.Chosen.{meets}
use Rattle.idl_changes.specs.Laws.{NoneHas}
use Rattle.idl_changes.specs.declared.change.Change.{Change}
use Rattle.idl_changes.specs.declared.rows.Weights.{Weights}
use Rattle.idl_source.specs.devices.Device.{append}
use Rattle.idl_driver.specs.Compilations.{HasCompiled}
use Rattle.idl_loader.specs.Lines.{whole_line}
use Rattle.idl_driver.specs.Rows.{are_faulty}
use Rattle.idl_driver.specs.declared.compilation.Compilation.{Compilation}
use Rattle.idl_loader.specs.declared.status.Status.TheVariants.{Failed, Faulty, Sound}
use Rattle.idl_tool.specs.Compared.{Version, are_failing, ending_by, ending_of, has_error, lines_between, seen, shown_between}
use Rattle.idl_tool.proofs.DepsLemmas.{ending-of}

-- whether one of two versions has an error, by what they compile to
pub error-of : (old new : Compilation) → HasCompiled old → HasCompiled new
    → (are_faulty old.compiled.items || are_faulty new.compiled.items) ≡ has_error (seen old) (seen new)
error-of old new first second =
    ap₂ (λ (a b : Bool). a || b) (ending-of old.sources old.roots.keys old.compiled.items first) (ending-of new.sources new.roots.keys new.compiled.items second)

-- nothing is written
pub append-none : (before : Option (List ℕ)) → before ≡ append before []
append-none None = refl
append-none (Some bytes) = ap Some (sym (append-nil bytes))

-- of versions with an error nothing is shown
pub shown-none : (fails : Weights) (old new : Version) (is_json : Bool) → has_error old new ≡ true
    → (shown_between fails old new is_json ≡ []) × (ending_of fails old new ≡ Failed)
shown-none fails old new is_json is = (
  ap (λ (b : Bool). if b then [] else lines_between fails old new is_json) is,
  ap (λ (b : Bool). if b then Failed else ending_by fails old new) is,
)

-- and of others the changes
pub shown-all : (fails : Weights) (old new : Version) (is_json : Bool) → has_error old new ≡ false
    → (shown_between fails old new is_json ≡ lines_between fails old new is_json) × (ending_of fails old new ≡ ending_by fails old new)
shown-all fails old new is_json is = (
  ap (λ (b : Bool). if b then [] else lines_between fails old new is_json) is,
  ap (λ (b : Bool). if b then Failed else ending_by fails old new) is,
)

-- of changes none of which is an error none counts on the wire, where that would be one
pub none-failing : (fails : Weights) → fails.wire ≡ true → (told : List Change) → are_failing fails told ≡ false → NoneHas (λ w. w.wire) told
none-failing fails wire [] is = All-nil (λ (c : Change). c.difference.weights.wire ≡ false)
none-failing fails wire (change ∷ rest) is =
    let parts = or_parts (meets change.difference.weights fails) (are_failing fails rest) is in
    let own = unmet change.difference.weights.wire fails.wire _ wire parts.0 in
    All-cons (λ (c : Change). c.difference.weights.wire ≡ false) change rest own (none-failing fails wire rest parts.1)
  where
    unmet : (a b more : Bool) → b ≡ true → ((a && b) || more) ≡ false → a ≡ false
    unmet true true more e h = cc
    unmet false b more e h = refl
    unmet true false more e h = cc

-- none is an error where the program ends soundly
pub sound-none : (faulty failing : Bool) → (if faulty then Failed else if failing then Faulty else Sound) ≡ Sound → failing ≡ false
sound-none true failing is = absurd (cc)
sound-none false true is = absurd (cc)
sound-none false false is = refl

-- a row behind a text, piece by piece
pub row-next : (text head row whole place grade words : List ℕ) → head ≡ text ++ (place ++ grade) → row ≡ head ++ words → whole ≡ row ++ 10 ∷ []
    → whole ≡ text ++ whole_line (place ++ (grade ++ words))
row-next text head row whole place grade words before put end =
    let next : row ≡ text ++ (place ++ (grade ++ words)) =
    put ∙ ap (λ (t : List ℕ). t ++ words) before ∙ append_assoc text (place ++ grade) words
    ∙ ap (λ (t : List ℕ). text ++ t) (append_assoc place grade words)
    in
    end ∙ ap (λ (t : List ℕ). t ++ 10 ∷ []) next ∙ append_assoc text (place ++ (grade ++ words)) (10 ∷ [])

-- what `get` finds among rows, by the rows of the definition
pub got-row : {X Y : Type 0} (row : X → Y) (xs : List X) (i : ℕ) (found : Option (Bor X)) → MatchOption found (length xs ≤ i) (λ x. (i < length xs) × HoldsAt (λ y. x.now ≡ y) xs i)
    → slice_get (map row xs) i ≡ option_map row (option_copied found)
got-row row xs i None past = slice_get-map row xs i ∙ ap (option_map row) (slice_get_past xs i past)
got-row row xs i (Some x) at = slice_get-map row xs i ∙ ap (option_map row) (slice_get_read xs (length xs) i x.now refl at.0 (at.1 x.now))
