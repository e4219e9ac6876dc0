-- No mark has more than two bytes, and none has no byte.
use Rattle.std.proofs.Common.{◌≡◌, ◌∙◌, ◌<◌, ◌≤◌, ℕ, Bool, true, false, ltb, cond, List, [], ◌∷◌, find, length, None, Some, refl, sym, ap, arith}
use Rattle.std.proofs.lemmas.Bool.{ltb-true}
use Rattle.std.specs.Cmp.Lexicographic.{bytes_decides}
use Rattle.std.specs.List.{list_all}
use Rattle.std.specs.Option.{option_map}
use Rattle.std.specs.Str.{bytes_eq}
use Rattle.idl_source.specs.idl_base.Exact.{both}
use Rattle.idl_lex.specs.kinds.Marks.{marks, mark_kind}
use Rattle.idl_lex.specs.kinds.WordTable.{value_of}
use Rattle.idl_lex.specs.declared.kinds.kind.TokenKind.{TokenKind}

pub mark_kind-empty : (word : List ℕ) → length word < 1 → None ≡ mark_kind word
unfolding marks
mark_kind-empty [] h = refl
mark_kind-empty (b ∷ word) h = absurd (omega (arith, h))

are_short : list_all (λ k. ltb (length k.0) 3) marks ≡ true
unfolding marks
are_short = refl

differs : (a word : List ℕ) (same : Bool) → length a < 3 → 3 ≤ length word → bytes_eq a word ≡ same → same ≡ false
differs a word true short long e = absurd (omega (arith, short, long, ap length ((bytes_decides a word).0 e)))
differs a word false short long e = refl

value_of-long : (word : List ℕ) (ms : List (List ℕ × TokenKind)) → 3 ≤ length word → list_all (λ k. ltb (length k.0) 3) ms ≡ true → None ≡ value_of ms word
value_of-long word [] long short = refl
value_of-long word (m ∷ ms) long short =
    let parts = both (ltb (length m.0) 3) (list_all (λ k. ltb (length k.0) 3) ms) short in
    let other = differs m.0 word (bytes_eq m.0 word) (ltb-true (length m.0) 3 parts.0) long refl in
    value_of-long word ms long parts.1
    ∙ ap (λ b. option_map (λ e. e.1) (cond b (Some m) (find (λ e. bytes_eq e.0 word) ms))) (sym other)

pub mark_kind-long : (word : List ℕ) → 3 ≤ length word → None ≡ mark_kind word
mark_kind-long word long = value_of-long word marks long are_short
