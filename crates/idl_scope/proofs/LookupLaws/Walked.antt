-- The questions of a walk over bases come to what a walk over places does.
use Rattle.std.proofs.Common.{◌≡◌, ℕ, zero, suc, ◌+◌, Bool, true, false, cond, List, [], ◌∷◌, ◌++◌, length, Option, Some, None, refl, ap, ◌∙◌, sym, inl, inr, arith, length-append, append-nil, append_assoc}
use Rattle.std.specs.Prelude.{option_to_list, slice_get, ◌||◌}
use Rattle.std.specs.List.{list_any}
use Rattle.std.specs.Cmp.Lexicographic.{bytes_decides, pointwise_decides}
use Rattle.std.proofs.lemmas.Bool.{false≢true, or_right}
use Rattle.std.proofs.lemmas.Option.{slice_get_past}
use Rattle.idl_memo.specs.Query.{Ask, Done, and_then, outcome}
use Rattle.idl_memo.proofs.QueryLaws.{outcome-and_then}
use Rattle.idl_env.specs.Facts.{entity_key, entity_in, joined}
use Rattle.idl_scope.specs.Lookup.{Lookup, bases_of, choose, entered, walk, reached}
use Rattle.idl_scope.specs.Meaning.{own_at, bases_at}
use Rattle.idl_entity.specs.Path.{path_eq}
use Rattle.idl_env.specs.declared.answering.answer.Answer.{Answer}
use Rattle.idl_entity.specs.declared.entity.Entity.{Entity}
use Rattle.idl_env.specs.declared.keys.key.Key.{Key}
use Rattle.idl_env.proofs.Membership.{IsIn}
use Rattle.idl_scope.proofs.LookupLaws.Reaching.{visited, onward, added}

-- whether a path is among those
abbrev pub among : List (List ℕ) → List (List (List ℕ)) → Bool
among p paths = list_any (path_eq p) paths

pub among-IsIn : (p : List (List ℕ)) (paths : List (List (List ℕ))) → (among p paths ≡ true → IsIn p paths) × (IsIn p paths → among p paths ≡ true)
among-IsIn p [] = (λ h. absurd (false≢true h), λ i. absurd i)
among-IsIn p (q ∷ paths) = (there (among-IsIn p paths).0 (path_eq p q) refl, back (among-IsIn p paths).1)
  where
    there : (among p paths ≡ true → IsIn p paths) → (t : Bool) → path_eq p q ≡ t → (t || among p paths) ≡ true → IsIn p (q ∷ paths)
    there rest true e h = inl (sym ((pointwise_decides bytes_decides p q).0 e))
    there rest false e h = inr (rest h)

    back : (IsIn p paths → among p paths ≡ true) → IsIn p (q ∷ paths) → (path_eq p q || among p paths) ≡ true
    back rest (inl e) = rw ((pointwise_decides bytes_decides p q).1 (sym e)) refl
    back rest (inr i) = rw (rest i) (or_right (path_eq p q) true refl)

-- paths that are joined go behind the queue, unless they are there
pub joined-added : (queue paths : List (List (List ℕ))) → joined queue paths ≡ queue ++ added among queue paths
joined-added queue [] = sym (append-nil queue)
joined-added queue (p ∷ paths) = by_test (among p queue) (joined-added queue paths) (joined-added (queue ++ p ∷ []) paths)
  where
    by_test : (t : Bool) → joined queue paths ≡ queue ++ added among queue paths → joined (queue ++ p ∷ []) paths ≡ (queue ++ p ∷ []) ++ added among (queue ++ p ∷ []) paths
        → joined (cond t queue (queue ++ p ∷ [])) paths ≡ queue ++ cond t (added among queue paths) (p ∷ added among (queue ++ p ∷ []) paths)
    by_test true old new = old
    by_test false old new = new ∙ append_assoc queue (p ∷ []) (added among (queue ++ p ∷ []) paths)

pub slice_get-seam : {A : Type 0} (xs : List A) (y : A) (ys : List A) → slice_get (xs ++ y ∷ ys) (length xs) ≡ Some y
slice_get-seam [] y ys = refl
slice_get-seam (x ∷ xs) y ys = slice_get-seam xs y ys

module _ (bank : Key → Option Answer) (n : List ℕ) where
  -- a walk that has entered some places of its queue comes to what is visited
  abbrev Comes : ℕ → List (List (List ℕ)) → List (List (List ℕ)) → List Entity → Type 0
  Comes turns before left found = outcome (walk turns n (length before) (before ++ left) found) bank ≡ visited among (own_at bank n) (bases_at bank) turns before left found

  -- one turn of a walk
  abbrev one_turn : ℕ → ℕ → List (List (List ℕ)) → List Entity → List (List ℕ) → Lookup (List Entity)
  one_turn turns at queue found b = and_then (entered n b) (λ r. walk turns n (at + 1) (joined queue r.1) (found ++ option_to_list r.0))

  -- what is asked of a base behind its own declaration
  abbrev entered_by : List (List ℕ) → Option Entity → Lookup (Option Entity × List (List (List ℕ)))
  entered_by b own = choose own (Ask (entity_key b) (λ base. Done (None, bases_of (entity_in base)))) (λ e. Done (Some e, []))

  -- what the entering of a base comes to
  pub outcome-entered : (b : List (List ℕ)) → outcome (entered n b) bank ≡ (own_at bank n b, onward (bases_at bank) b (own_at bank n b))
  outcome-entered b = by_own (own_at bank n b)
    where
      by_own : (own : Option Entity) → outcome (entered_by b own) bank ≡ (own, onward (bases_at bank) b own)
      by_own None = refl
      by_own (Some e) = refl

  walk_out : (at : ℕ) (queue : List (List (List ℕ))) (found : List Entity) → outcome (walk zero n at queue found) bank ≡ found
  unfolding walk
  walk_out at queue found = refl

  walk_end : (turns at : ℕ) (queue : List (List (List ℕ))) (found : List Entity) → slice_get queue at ≡ None → outcome (walk (suc turns) n at queue found) bank ≡ found
  unfolding walk
  walk_end turns at queue found h = ap (λ o. outcome (elim o as (λ _. Lookup (List Entity)) [ None ↦ Done found | Some b ↦ one_turn turns at queue found b ]) bank) h

  walk_turn : (turns at : ℕ) (queue : List (List (List ℕ))) (found : List Entity) (b : List (List ℕ)) → slice_get queue at ≡ Some b → outcome (walk (suc turns) n at queue found) bank ≡ outcome (one_turn turns at queue found b) bank
  unfolding walk
  walk_turn turns at queue found b h = ap (λ o. outcome (elim o as (λ _. Lookup (List Entity)) [ None ↦ Done found | Some c ↦ one_turn turns at queue found c ]) bank) h

  turn : (turns : ℕ) (before left : List (List (List ℕ))) (found : List Entity) (b : List (List ℕ))
      → ((more : List (List (List ℕ))) (es : List Entity) → Comes turns (before ++ b ∷ []) more es)
      → outcome (one_turn turns (length before) (before ++ b ∷ left) found b) bank
      ≡ visited among (own_at bank n) (bases_at bank) turns (before ++ b ∷ []) (left ++ added among (before ++ b ∷ left) (onward (bases_at bank) b (own_at bank n b))) (found ++ option_to_list (own_at bank n b))
  turn turns before left found b on =
      outcome-and_then (entered n b) (λ r. walk turns n (length before + 1) (joined (before ++ b ∷ left) r.1) (found ++ option_to_list r.0)) bank
      ∙ ap (λ r. outcome (walk turns n (length before + 1) (joined (before ++ b ∷ left) r.1) (found ++ option_to_list r.0)) bank) (outcome-entered b)
      ∙ ap (λ q. outcome (walk turns n (length before + 1) q (found ++ option_to_list (own_at bank n b))) bank) (joined-added (before ++ b ∷ left) (onward (bases_at bank) b (own_at bank n b)))
      ∙ from (added among (before ++ b ∷ left) (onward (bases_at bank) b (own_at bank n b))) (found ++ option_to_list (own_at bank n b))
    where
      at : length (before ++ b ∷ []) ≡ length before + 1
      at = length-append before (b ∷ [])

      queue : (more : List (List (List ℕ))) → (before ++ b ∷ left) ++ more ≡ (before ++ b ∷ []) ++ (left ++ more)
      queue more = append_assoc before (b ∷ left) more ∙ sym (append_assoc before (b ∷ []) (left ++ more))

      from : (more : List (List (List ℕ))) (es : List Entity) → outcome (walk turns n (length before + 1) ((before ++ b ∷ left) ++ more) es) bank ≡ visited among (own_at bank n) (bases_at bank) turns (before ++ b ∷ []) (left ++ more) es
      from more es = rw (← at, queue more) (on (left ++ more) es)

  outcome-walk : (turns : ℕ) (before left : List (List (List ℕ))) (found : List Entity) → Comes turns before left found
  outcome-walk zero before left found = walk_out (length before) (before ++ left) found
  outcome-walk (suc turns) before [] found = walk_end turns (length before) (before ++ []) found (slice_get_past (before ++ []) (length before) (let l = length-append before [] in omega (arith, l)))
  outcome-walk (suc turns) before (b ∷ left) found =
      walk_turn turns (length before) (before ++ b ∷ left) found b (slice_get-seam before b left)
      ∙ turn turns before left found b (λ more es. outcome-walk turns (before ++ b ∷ []) more es)

  pub outcome-reached : (turns : ℕ) (starts : List (List (List ℕ))) → outcome (reached turns n starts) bank ≡ visited among (own_at bank n) (bases_at bank) turns [] (added among [] starts) []
  outcome-reached turns starts = rw (joined-added [] starts) (outcome-walk turns [] (added among [] starts) [])
