-- Chunks that are laid out, by their places.
use Rattle.std.proofs.Common.{◌≡◌, ◌∙◌, ◌∷◌, ℕ, Bool, true, false, cond, List, [], Option, None, Some, ap, refl, sym}
use Rattle.std.proofs.lemmas.List.Elements.{All-cons, All-head, All-nil, All-tail}
use Rattle.std.specs.Cmp.Lexicographic.{bytes_decides}
use Rattle.std.specs.FinMap as finite
use Rattle.std.specs.Map.{lookup}
use Rattle.indexmap.specs.IndexMap.{insert_entry}
use Rattle.idl_base.specs.Exact.{both}
use Rattle.idl_fault.specs.declared.place.Place.{Place}
use Rattle.idl_source.specs.texts.Texts.{Texts}
use Rattle.idl_text.specs.Starts.{column_in}
use Rattle.idl_inputs.specs.Columns.{AreOfFiles, column_at}
use Rattle.idl_inputs.specs.contracts.columns.ChunkPlacePartialEq.TheImpl.{ghosts}
use Rattle.idl_inputs.specs.declared.columns.ChunkPlace.{ChunkPlace}

module _ (files : Texts) (place : ChunkPlace) (lines : List (List ℕ)) where
  abbrev IsOfFile : ChunkPlace × List (List ℕ) → Type 0
  IsOfFile chunk = finite.get files chunk.0.file ≡ Some chunk.1

  same_file : (other : ChunkPlace) → ghosts.eq place other ≡ true → finite.get files place.file ≡ finite.get files other.file
  same_file other same = ap (finite.get files) ((bytes_decides place.file other.file).0 (both _ _ same).0)

  -- one that is found is of the file of its name
  pub found-chunk : (chunks : List (ChunkPlace × List (List ℕ))) → AreOfFiles files chunks → lookup (ghosts.eq place) chunks ≡ Some lines → finite.get files place.file ≡ Some lines
  found-chunk [] are is = cc
  found-chunk (b ∷ chunks) are is = by (ghosts.eq place b.0) refl is (found-chunk chunks (All-tail IsOfFile b chunks are))
    where
      by : (x : Bool) → ghosts.eq place b.0 ≡ x → cond x (Some b.1) (lookup (ghosts.eq place) chunks) ≡ Some lines
          → (lookup (ghosts.eq place) chunks ≡ Some lines → finite.get files place.file ≡ Some lines) → finite.get files place.file ≡ Some lines
      by true same found later = same_file b.0 same ∙ All-head IsOfFile b chunks are ∙ found
      by false other found later = later found

  -- one more
  pub with-chunk : finite.get files place.file ≡ Some lines → (chunks : List (ChunkPlace × List (List ℕ))) → AreOfFiles files chunks → AreOfFiles files (insert_entry ghosts.eq chunks place lines)
  with-chunk of [] are = All-cons IsOfFile (place, lines) [] of (All-nil IsOfFile)
  with-chunk of (b ∷ chunks) are = by (ghosts.eq place b.0) refl (with-chunk of chunks (All-tail IsOfFile b chunks are))
    where
      by : (x : Bool) → ghosts.eq place b.0 ≡ x → AreOfFiles files (insert_entry ghosts.eq chunks place lines)
          → AreOfFiles files (cond x ((b.0, lines) ∷ chunks) (b ∷ insert_entry ghosts.eq chunks place lines))
      by true same later = All-cons IsOfFile (b.0, lines) chunks (sym (same_file b.0 same) ∙ of) (All-tail IsOfFile b chunks are)
      by false other later = All-cons IsOfFile b (insert_entry ghosts.eq chunks place lines) (All-head IsOfFile b chunks are) later

-- before the first is laid out
pub none-laid : (files : Texts) → AreOfFiles files []
none-laid files = All-nil (λ (chunk : ChunkPlace × List (List ℕ)). finite.get files chunk.0.file ≡ Some chunk.1)

-- the column in a file that is there
pub column-there : (files : Texts) (place : Place) (number : Option ℕ) (text : List ℕ) (lines : List (List ℕ)) → finite.get files place.file ≡ Some lines
    → column_at files place number text ≡ column_in lines place.line number text
column-there files place number text lines there =
    ap (λ (found : Option (List (List ℕ))). elim found [ None ↦ None | Some ls ↦ column_in ls place.line number text ]) there
