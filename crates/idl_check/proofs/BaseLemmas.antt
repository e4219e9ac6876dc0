-- The operations and attributes that bases bring, by their names.
use Rattle.std.proofs.Common.{◌≡◌, ℕ, Bool, true, false, cond, List, [], ◌∷◌, None, Some, is_some, refl, sym, ap, ◌∙◌}
use Rattle.std.specs.Prelude.{fold, not, ◌||◌}
use Rattle.std.specs.Cmp.Lexicographic.{bytes_decides}
use Rattle.std.specs.List.{list_any}
use Rattle.std.specs.Map.{lookup}
use Rattle.std.specs.Str.{bytes_eq}
use Rattle.idl_map.proofs.TableLemmas.{lookup-insert_entry}
use Rattle.idl_check.specs.tables.Using.{with_operation}
use Rattle.idl_check.specs.tables.Rules.{is_another}
use Rattle.idl_lex.specs.kinds.Keywords.{folded}
use Rattle.idl_entity.specs.Path.{name_of, path_eq}

module _ (n : List ℕ) where
  -- what is brought under a name once one more is
  lookup-with_operation : (a : List (List ℕ × List (List ℕ))) (p : List (List ℕ)) → lookup (bytes_eq n) (with_operation a p) ≡ cond (bytes_eq n (folded (name_of p))) (Some p) (lookup (bytes_eq n) a)
  lookup-with_operation a p = lookup-insert_entry bytes_eq (λ x y. (bytes_decides x y).0) (folded (name_of p)) p n a

  -- what is alike under a name stays so with more
  pub alike-more : (a b : List (List ℕ × List (List ℕ))) (paths : List (List (List ℕ))) → lookup (bytes_eq n) a ≡ lookup (bytes_eq n) b
      → lookup (bytes_eq n) (fold with_operation a paths) ≡ lookup (bytes_eq n) (fold with_operation b paths)
  alike-more a b [] h = h
  alike-more a b (p ∷ paths) h =
      alike-more (with_operation a p) (with_operation b p) paths
      (lookup-with_operation a p ∙ ap (cond (bytes_eq n (folded (name_of p))) (Some p)) h ∙ sym (lookup-with_operation b p))

  -- one whose name isn't asked for changes nothing under a name that is
  pub unasked-more : (asked a : List (List ℕ × List (List ℕ))) (p : List (List ℕ)) (paths : List (List (List ℕ))) → is_some (lookup (bytes_eq n) asked) ≡ true → is_some (lookup (bytes_eq (folded (name_of p))) asked) ≡ false
      → lookup (bytes_eq n) (fold with_operation a paths) ≡ lookup (bytes_eq n) (fold with_operation a (p ∷ paths))
  unasked-more asked a p paths h g =
      alike-more a (with_operation a p) paths
      (sym (lookup-with_operation a p ∙ ap (λ b. cond b (Some p) (lookup (bytes_eq n) a)) (differs (bytes_eq n (folded (name_of p))) refl)))
    where
      differs : (b : Bool) → bytes_eq n (folded (name_of p)) ≡ b → b ≡ false
      differs true one = sym h ∙ ap (λ m. is_some (lookup (bytes_eq m) asked)) ((bytes_decides n (folded (name_of p))).0 one) ∙ g
      differs false other = refl

  -- a name under which something is brought stays one
  kept-more : (a : List (List ℕ × List (List ℕ))) (paths : List (List (List ℕ))) → is_some (lookup (bytes_eq n) a) ≡ true → is_some (lookup (bytes_eq n) (fold with_operation a paths)) ≡ true
  kept-more a [] h = h
  kept-more a (p ∷ paths) h = kept-more (with_operation a p) paths (ap is_some (lookup-with_operation a p) ∙ by (bytes_eq n (folded (name_of p))))
    where
      by : (b : Bool) → is_some (cond b (Some p) (lookup (bytes_eq n) a)) ≡ true
      by true = refl
      by false = h

-- the name of the first of them is one
first_kept : (c : List (List ℕ × List (List ℕ))) (p : List (List ℕ)) (paths : List (List (List ℕ))) → is_some (lookup (bytes_eq (folded (name_of p))) (fold with_operation c (p ∷ paths))) ≡ true
first_kept c p paths =
    let n = folded (name_of p) in
    kept-more n (with_operation c p) paths
    (ap is_some (lookup-with_operation n c p) ∙ ap (λ b. is_some (cond b (Some p) (lookup (bytes_eq n) c))) ((bytes_decides n n).1 refl))

-- paths stand beside another one alike where what is brought under their names is alike
pub alike-any : (a b c : List (List ℕ × List (List ℕ))) (paths : List (List (List ℕ)))
    → ((n : List ℕ) → is_some (lookup (bytes_eq n) (fold with_operation c paths)) ≡ true → lookup (bytes_eq n) a ≡ lookup (bytes_eq n) b)
    → list_any (is_another a) paths ≡ list_any (is_another b) paths
alike-any a b c [] h = refl
alike-any a b c (p ∷ paths) h =
    ap (λ o. elim o [ None ↦ false | Some q ↦ not (path_eq p q) ] || list_any (is_another a) paths) (h (folded (name_of p)) (first_kept c p paths))
    ∙ ap (λ rest. is_another b p || rest) (alike-any a b (with_operation c p) paths h)
