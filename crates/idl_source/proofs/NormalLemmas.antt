-- The normal form of paths, and that a name has it.
use Rattle.std.proofs.Common.{◌≡◌, ◌<◌, ◌+◌, ◌-◌, ◌++◌, ◌∷◌, ◌∙◌, [], ℕ, zero, suc, Bool, true, false, ◌&&◌, not, cond, List, None, Some, IsTrue, eqb, leb, drop, replicate, length, refl, sym, ap, arith, add-one, eqb-true}
use Rattle.std.specs.List.{list_all, onto_first}
use Rattle.std.specs.Cmp.Lexicographic.{bytes_decides}
use Rattle.std.specs.Str.{bytes_eq}
use Rattle.std.proofs.lemmas.Bool.Decides.{nat_tests}
use Rattle.std.proofs.lemmas.List.Splits.{length-slice_split, slice_split-cons_yes}
use Rattle.idl_source.specs.names.Name.{climbs, is_name, is_path, is_plain, is_up, is_visible, segments}
use Rattle.idl_source.specs.names.Path.{Path, down_by, here, joined_path, led_by, led_by_all, name_of, slashed, text_of}
use Rattle.idl_source.proofs.DirectoryLemmas.{first, second}
use Rattle.idl_source.proofs.PathLemmas.{joined-beside, joined-rooted, led_by_all-append}

pub led_by_all-blank : (before after : List (List ℕ)) → led_by_all (before ++ [] ∷ after) here ≡ led_by_all (before ++ after) here
unfolding led_by_all
led_by_all-blank before after = led_by_all-append before ([] ∷ after) here ∙ sym (led_by_all-append before after here)

pub led_by_all-dot : (before after : List (List ℕ)) → led_by_all (before ++ (46 ∷ []) ∷ after) here ≡ led_by_all (before ++ after) here
unfolding led_by_all
led_by_all-dot before after = led_by_all-append before ((46 ∷ []) ∷ after) here ∙ sym (led_by_all-append before after here)

not_up : (a b up : Bool) → IsTrue (a && b && not up) → up ≡ false
not_up a b false h = refl
not_up false b true h = cc h
not_up true false true h = cc h
not_up true true true h = cc h

led : Bool → Bool → List ℕ → Path → Path
led up plain segment path = cond up (record path { up = path.up + 1 }) (cond plain (down_by segment path) path)

-- a plain segment is a step down
led_by-plain : (segment : List ℕ) (path : Path) → IsTrue (is_plain segment) → led_by segment path ≡ down_by segment path
unfolding led
led_by-plain segment path plain =
    let beside : is_up segment ≡ false = not_up (not (bytes_eq segment [])) (not (bytes_eq segment (46 ∷ []))) (is_up segment) plain in
    λ i. led (beside i) (plain i) segment path

-- which takes the step up after it away
led_by-up : (segment : List ℕ) (path : Path) → IsTrue (is_plain segment) → led_by segment (led_by (46 ∷ 46 ∷ []) path) ≡ path
led_by-up segment path plain =
    let above : Path = record path { up = path.up + 1 } in
    let some : eqb (path.up + 1) 0 ≡ false = grind (arith, nat_tests) in
    let less : path.up + 1 - 1 ≡ path.up = omega arith in
    led_by-plain segment above plain
    ∙ ap (λ b. let p : Path = cond b (record above { down = segment ∷ path.down }) (record above { up = path.up + 1 - 1 }) in p) some
    ∙ ap (λ n. let p : Path = record path { up = n } in p) less

pub led_by_all-up : (before after : List (List ℕ)) (segment : List ℕ) → IsTrue (is_plain segment) → led_by_all (before ++ segment ∷ (46 ∷ 46 ∷ []) ∷ after) here ≡ led_by_all (before ++ after) here
unfolding led_by_all
led_by_all-up before after segment plain =
    led_by_all-append before (segment ∷ (46 ∷ 46 ∷ []) ∷ after) here
    ∙ ap (led_by_all before) (led_by-up segment (led_by_all after here) plain)
    ∙ sym (led_by_all-append before after here)

-- plain segments, and then a run of `..` before them
led_by_all-plain : (names : List (List ℕ)) → IsTrue (list_all is_plain names) → led_by_all names here ≡ record { up = 0; down = names }
unfolding led_by_all
led_by_all-plain [] plain = refl
led_by_all-plain (name ∷ names) plain =
    ap (led_by name) (led_by_all-plain names (second _ _ plain))
    ∙ led_by-plain name (record { up = 0; down = names }) (first _ _ plain)

pub led_by_all-form : (n : ℕ) (names : List (List ℕ)) → IsTrue (list_all is_plain names) → led_by_all (replicate n (46 ∷ 46 ∷ []) ++ names) here ≡ record { up = n; down = names }
unfolding led_by_all
led_by_all-form zero names plain = led_by_all-plain names plain
led_by_all-form (suc n) names plain =
    ap (led_by (46 ∷ 46 ∷ [])) (led_by_all-form n names plain)
    ∙ ap (λ m. let p : Path = record { up = m; down = names } in p) (add-one n)

slashed-onto_first : (b : ℕ) (parts : List (List ℕ)) → 0 < length parts → slashed (onto_first b parts) ≡ 47 ∷ b ∷ drop 1 (slashed parts)
slashed-onto_first b [] some = absurd (omega arith)
slashed-onto_first b (part ∷ parts) some = refl

-- the segments of a text, each with `/` before it
pub slashed-segments : (bytes : List ℕ) → slashed (segments bytes) ≡ 47 ∷ bytes
slashed-segments [] = refl
slashed-segments (b ∷ bytes) =
    let some : 0 < length (segments bytes) = omega (arith, length-slice_split (λ b. eqb b 47) bytes) in
    elim (eqb b 47) as (λ t. eqb b 47 ≡ t → slashed (cond t ([] ∷ segments bytes) (onto_first b (segments bytes))) ≡ 47 ∷ b ∷ bytes) [
      | true ↦ λ e. ap (λ (l : List ℕ). 47 ∷ l) (slashed-segments bytes ∙ ap (λ x. x ∷ bytes) (sym (eqb-true b 47 e)))
      | false ↦ λ e. slashed-onto_first b (segments bytes) some ∙ ap (λ (l : List ℕ). 47 ∷ b ∷ drop 1 l) (slashed-segments bytes)
    ] refl

-- a run of `..` and plain segments is what it stands for
climbs-form : (parts : List (List ℕ)) → IsTrue (climbs parts) → replicate (led_by_all parts here).up (46 ∷ 46 ∷ []) ++ (led_by_all parts here).down ≡ parts
unfolding led_by_all led
climbs-form [] h = refl
climbs-form (part ∷ parts) h =
    elim (is_up part) as (λ u. is_up part ≡ u → IsTrue (cond u (climbs parts) (list_all is_plain (part ∷ parts))) → replicate (led_by part (led_by_all parts here)).up (46 ∷ 46 ∷ []) ++ (led_by part (led_by_all parts here)).down ≡ part ∷ parts) [
      | true ↦ λ e g. ap (λ u. let p : Path = led u (is_plain part) part (led_by_all parts here) in replicate p.up (46 ∷ 46 ∷ []) ++ p.down) e
          ∙ ap (λ n. replicate n (46 ∷ 46 ∷ []) ++ (led_by_all parts here).down) (add-one (led_by_all parts here).up)
          ∙ (λ i. sym ((bytes_decides part (46 ∷ 46 ∷ [])).0 e) i ∷ climbs-form parts g i)
      | false ↦ λ e g. ap (λ (p : Path). replicate p.up (46 ∷ 46 ∷ []) ++ p.down) (led_by_all-plain (part ∷ parts) g)
    ] refl h

named : (path : Path) (rooted : Bool) (name : List ℕ) → text_of rooted path ≡ name → IsTrue (is_name name) → name_of rooted path ≡ Some name
named path rooted name is allowed = ap (λ (t : List ℕ). cond (is_name t) (Some t) None) is ∙ ap (λ b. cond b (Some name) None) allowed

from_root : (b : ℕ) (bytes : List ℕ) → eqb b 47 ≡ true → IsTrue (list_all is_plain (segments bytes)) → text_of true (led_by_all (segments (b ∷ bytes)) here) ≡ b ∷ bytes
unfolding led_by_all text_of
from_root b bytes root plain =
    ap (λ (l : List (List ℕ)). text_of true (led_by_all l here)) (slice_split-cons_yes (λ b. eqb b 47) b bytes root)
    ∙ ap (text_of true) (led_by_all-plain (segments bytes) plain)
    ∙ slashed-segments bytes
    ∙ ap (λ x. x ∷ bytes) (sym (eqb-true b 47 root))

from_here : (name : List ℕ) → IsTrue (climbs (segments name)) → text_of false (led_by_all (segments (46 ∷ [])) (led_by_all (segments name) here)) ≡ name
unfolding led_by_all text_of
from_here name climb = ap (λ (l : List (List ℕ)). drop 1 (slashed l)) (climbs-form (segments name) climb) ∙ ap (drop 1) (slashed-segments name)

-- a name stands for itself
pub joined-name : (name : List ℕ) → IsTrue (is_name name) → joined_path (46 ∷ []) name ≡ Some name
joined-name [] allowed = cc allowed
joined-name (b ∷ bytes) allowed =
    let name = b ∷ bytes in
    let path : IsTrue (is_path name) = second (list_all is_visible name) _ (second (leb (length name) 255) _ (second (leb 1 (length name)) _ allowed)) in
    elim (eqb b 47) as (λ t. eqb b 47 ≡ t → IsTrue (cond t (list_all is_plain (segments bytes)) (climbs (segments name))) → joined_path (46 ∷ []) name ≡ Some name) [
      | true ↦ λ e g. joined-rooted (46 ∷ []) name e ∙ named (led_by_all (segments name) here) true name (from_root b bytes e g) allowed
      | false ↦ λ e g. joined-beside (46 ∷ []) name e ∙ named (led_by_all (segments (46 ∷ [])) (led_by_all (segments name) here)) false name (from_here name g) allowed
    ] refl path
