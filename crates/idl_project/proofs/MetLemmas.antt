-- Which tasks are met, and at how many keys known ones are compared there.
use Rattle.std.proofs.Common.{◌≡◌, ◌∙◌, ℕ, ◌+◌, Bool, true, false, ◌||◌, ◌&&◌, All, List, Option, [], ◌∷◌, ◌++◌, append_assoc, append-nil, arith, if◌then◌else◌, length, map, refl, sym, ap, subst}
use Rattle.std.proofs.lemmas.Bool.{true≢false, false≢true}
use Rattle.std.proofs.lemmas.Grind.{flat_map-append}
use Rattle.std.proofs.lemmas.List.{map-append}
use Rattle.std.proofs.lemmas.List.Elements.{All-head, All-tail, All-weaker}
use Rattle.std.proofs.lemmas.List.Folds.{list_any-append}
use Rattle.std.proofs.lemmas.List.Sums.{sum_by-append, sum_by-cons}
use Rattle.std.proofs.lemmas.Map.Keys.{IsDistinct-head, IsDistinct-tail}
use Rattle.std.specs.List.{AllByRecursion, IsDistinct, flat_map, list_all, list_any}
use Rattle.std.specs.Option.{option_eq}
use Rattle.std.specs.Str.{bytes_eq}
use Rattle.std.specs.Cmp.Lexicographic.{bytes_decides}
use Rattle.idl_event.specs.Key.{key_eq}
use Rattle.idl_event.specs.declared.asked.key.RootAnswer.{RootAnswer}
use Rattle.idl_event.specs.declared.asked.key.RootKey.{RootKey}
use Rattle.idl_memo.specs.Fresh.{asked_among, keys_at, places_over}
use Rattle.idl_memo.specs.Query.{asked}
use Rattle.idl_prep.specs.Root.{expanded, expansion}
use Rattle.idl_sources.specs.idl_root.Compared.{compared_root, shared_entries, shared_entry}
use Rattle.idl_sources.specs.idl_root.Places.{EntryPlace, root_pieces}
use Rattle.idl_sources.specs.idl_root.idl_root_blocks.Met.{Met, compared, met_over, shared_by}
use Rattle.idl_project.specs.Compared.{KnownTasks, MetEntry, MetRoot, MetText, PlaceMet, compared_in, met_among, met_at, met_entries, met_inside, shared_keys, tasks_of, with_tasks}
use Rattle.idl_project.specs.Tasks.{alike_root, answer_eq, blocks_at, declarations_at, entries_at}

-- ---- sums

pub compared-both : (a b : List PlaceMet) → compared_in (a ++ b) ≡ compared_in a + compared_in b
compared-both a b = sum_by-append shared_keys a b

-- of units and blocks
compared-text : (met : List Met) → compared_in (map MetText met) ≡ compared met
compared-text [] = refl
compared-text (m ∷ met) =
    sum_by-cons shared_keys (MetText m) (map MetText met) ∙ ap (λ n. shared_by m + n) (compared-text met) ∙ sym (sum_by-cons shared_by m met)

module _ (none : (known : List EntryPlace) → shared_entries known [] ≡ 0)
    (more : (known : List EntryPlace) (here : EntryPlace) (more : List EntryPlace) → shared_entries known (here ∷ more) ≡ shared_entry known here + shared_entries (known ++ here ∷ []) more) where
  -- of names
  compared-entries : (places known : List EntryPlace) → compared_in (met_entries known places) ≡ shared_entries known places
  compared-entries [] known = sym (none known)
  compared-entries (here ∷ places) known =
      sum_by-cons shared_keys (MetEntry known here) (met_entries (known ++ here ∷ []) places)
      ∙ ap (λ n. shared_entry known here + n) (compared-entries places (known ++ here ∷ [])) ∙ sym (more known here places)

  -- of all that is in a root
  pub compared-inside : (known : KnownTasks) (bank : RootKey → Option RootAnswer) (root : List ℕ)
      → compared_in (met_inside known bank root) ≡ compared_root known.texts known.entries (expanded root bank).0
  unfolding compared_root
  compared-inside known bank root =
      let met = met_over known.texts [] (root_pieces (expanded root bank).0) in
      compared-both (map MetText met) (met_entries known.entries (entries_at bank root))
      ∙ (λ i. compared-text met i + compared-entries (entries_at bank root) known.entries i)

  -- of a root whose own task isn't known
  pub compared-stale : (known : KnownTasks) (bank : RootKey → Option RootAnswer) (root : List ℕ) → list_any (alike_root (root, bank)) known.roots ≡ false
      → compared_in (met_at known bank root) ≡ compared_root known.texts known.entries (expanded root bank).0
  compared-stale known bank root is =
      let inside = met_inside known bank root in
      sum_by-cons shared_keys (MetRoot known.roots (root, bank)) (if list_any (alike_root (root, bank)) known.roots then [] else inside)
      ∙ ap (λ b. (if b then keys_at bytes_eq (option_eq answer_eq) expansion key_eq (root, bank) else 0) + compared_in (if b then [] else inside)) is
      ∙ zero-more (compared_in inside) ∙ compared-inside known bank root
    where
      zero-more : (n : ℕ) → 0 + n ≡ n
      zero-more n = omega arith

-- of a root whose own task is known
pub compared-held : (known : KnownTasks) (bank : RootKey → Option RootAnswer) (root : List ℕ) → list_any (alike_root (root, bank)) known.roots ≡ true
    → compared_in (met_at known bank root) ≡ length (expanded root bank).1
compared-held known bank root is =
    let inside = met_inside known bank root in
    let keys : ℕ = keys_at bytes_eq (option_eq answer_eq) expansion key_eq (root, bank) in
    sum_by-cons shared_keys (MetRoot known.roots (root, bank)) (if list_any (alike_root (root, bank)) known.roots then [] else inside)
    ∙ ap (λ b. (if b then keys else 0) + compared_in (if b then [] else inside)) is
    ∙ more-zero keys
  where
    more-zero : (n : ℕ) → n + 0 ≡ n
    more-zero n = omega arith

-- ---- known tasks

-- with those of roots, and then of others
pub tasks-append : (known : KnownTasks) (bank : RootKey → Option RootAnswer) (a b : List (List ℕ))
    → with_tasks (with_tasks known (tasks_of bank a)) (tasks_of bank b) ≡ with_tasks known (tasks_of bank (a ++ b))
tasks-append known bank a b =
    let roots : (known.roots ++ places_over bank a) ++ places_over bank b ≡ known.roots ++ places_over bank (a ++ b) =
    append_assoc known.roots (places_over bank a) (places_over bank b)
    ∙ ap (λ ps. known.roots ++ ps) (sym (map-append (λ (text : List ℕ). (text, bank)) a b)) in
    λ i. record {
      roots = roots i;
      texts = record {
        declarations = flat-more (declarations_at bank) known.texts.declarations a b i;
        blocks = flat-more (blocks_at bank) known.texts.blocks a b i;
      };
      entries = flat-more (entries_at bank) known.entries a b i;
    }
  where
    flat-more : {P : Type 0} (at : List ℕ → List P) (first : List P) (a b : List (List ℕ)) → (first ++ flat_map at a) ++ flat_map at b ≡ first ++ flat_map at (a ++ b)
    flat-more {P} at first a b =
        append_assoc first (flat_map at a) (flat_map at b) ∙ ap (λ (ps : List P). first ++ ps) (sym (flat_map-append at a b))

pub tasks-none : (known : KnownTasks) (bank : RootKey → Option RootAnswer) → with_tasks known (tasks_of bank []) ≡ known
tasks-none known bank i = record {
  roots = append-nil known.roots i;
  texts = record { declarations = append-nil known.texts.declarations i; blocks = append-nil known.texts.blocks i };
  entries = append-nil known.entries i;
}

-- what is met of a root, and then of others
pub compared-first : (known : KnownTasks) (bank : RootKey → Option RootAnswer) (root : List ℕ) (roots : List (List ℕ))
    → compared_in (met_among known bank (root ∷ roots))
    ≡ compared_in (met_at known bank root) + compared_in (met_among (with_tasks known (tasks_of bank (root ∷ []))) bank roots)
compared-first known bank root roots = compared-both (met_at known bank root) (met_among (with_tasks known (tasks_of bank (root ∷ []))) bank roots)

-- of roots, and then of others
pub compared-append : (bank : RootKey → Option RootAnswer) (a b : List (List ℕ)) (known : KnownTasks)
    → compared_in (met_among known bank (a ++ b)) ≡ compared_in (met_among known bank a) + compared_in (met_among (with_tasks known (tasks_of bank a)) bank b)
compared-append bank [] b known = zero-more (compared_in (met_among known bank b)) ∙ ap (λ (k : KnownTasks). 0 + compared_in (met_among k bank b)) (sym (tasks-none known bank))
  where
    zero-more : (n : ℕ) → n ≡ 0 + n
    zero-more n = omega arith
compared-append bank (n ∷ a) b known =
    let next = with_tasks known (tasks_of bank (n ∷ [])) in
    let here = compared_in (met_at known bank n) in
    compared-first known bank n (a ++ b)
    ∙ ap (λ m. here + m) (compared-append bank a b next ∙ ap (λ (k : KnownTasks). compared_in (met_among next bank a) + compared_in (met_among k bank b)) (tasks-append known bank (n ∷ []) a))
    ∙ thrice here (compared_in (met_among next bank a)) (compared_in (met_among (with_tasks known (tasks_of bank (n ∷ a))) bank b))
    ∙ ap (λ m. m + compared_in (met_among (with_tasks known (tasks_of bank (n ∷ a))) bank b)) (sym (compared-first known bank n a))
  where
    thrice : (x y z : ℕ) → x + (y + z) ≡ (x + y) + z
    thrice x y z = omega arith

-- ---- which root's task is alike

or-none : (b : Bool) → b ≡ false → (a : Bool) → (a || b) ≡ a
or-none b is true = refl
or-none b is false = is

or-second : (a b : Bool) → b ≡ true → (a || b) ≡ true
or-second true b is = refl
or-second false b is = is

or-first : (a b : Bool) → a ≡ true → (a || b) ≡ true
or-first a b is = ap (λ c. c || b) is

-- one more in front, of another name
one-other : (is_name alike first rest : Bool) → is_name ≡ false → (is_name && alike || rest) ≡ rest
one-other true alike first rest is = absurd (true≢false is)
one-other false alike first rest is = refl

first-none : (a b : Bool) → (a || b) ≡ false → a ≡ false
first-none true b is = is
first-none false b is = refl

then-none : (a b : Bool) → (a || b) ≡ false → b ≡ false
then-none true b is = absurd (true≢false is)
then-none false b is = is

-- none, where there is none of its name
pub alike-none : (was new : RootKey → Option RootAnswer) (root : List ℕ) (names : List (List ℕ)) → list_any (bytes_eq root) names ≡ false
    → list_any (alike_root (root, new)) (places_over was names) ≡ false
alike-none was new root [] h = refl
alike-none was new root (n ∷ ns) h =
    one-other (bytes_eq root n) (list_all (λ k. option_eq answer_eq (new k) (was k)) (asked (expansion n) was)) false (list_any (alike_root (root, new)) (places_over was ns))
    (first-none (bytes_eq root n) (list_any (bytes_eq root) ns) h)
    ∙ alike-none was new root ns (then-none (bytes_eq root n) (list_any (bytes_eq root) ns) h)

-- its own alone
alike-own : (was new : RootKey → Option RootAnswer) (root : List ℕ) (done left : List (List ℕ)) → list_any (bytes_eq root) done ≡ false → list_any (bytes_eq root) left ≡ false
    → list_any (alike_root (root, new)) (places_over was (done ++ root ∷ left)) ≡ alike_root (root, new) (root, was)
alike-own was new root [] left h none =
    or-none (list_any (alike_root (root, new)) (places_over was left)) (alike-none was new root left none) (alike_root (root, new) (root, was))
alike-own was new root (n ∷ done) left h none =
    one-other (bytes_eq root n) (list_all (λ k. option_eq answer_eq (new k) (was k)) (asked (expansion n) was)) false (list_any (alike_root (root, new)) (places_over was (done ++ root ∷ left)))
    (first-none (bytes_eq root n) (list_any (bytes_eq root) done) h)
    ∙ alike-own was new root done left (then-none (bytes_eq root n) (list_any (bytes_eq root) done) h) none

-- of distinct names, one isn't among those behind it
none-behind : (name : List ℕ) (names : List (List ℕ)) → AllByRecursion (λ m. bytes_eq name m ≡ false) names → list_any (bytes_eq name) names ≡ false
none-behind name [] h = refl
none-behind name (n ∷ ns) h = ap (λ b. b || list_any (bytes_eq name) ns) h.0 ∙ none-behind name ns h.1

pub list_any-behind : (names : List (List ℕ)) (name : List ℕ) (after : List (List ℕ)) → IsDistinct bytes_eq (names ++ name ∷ after) → list_any (bytes_eq name) after ≡ false
list_any-behind [] name after distinct = none-behind name after (IsDistinct-head bytes_eq name after distinct)
list_any-behind (n ∷ ns) name after distinct = list_any-behind ns name after (IsDistinct-tail bytes_eq n (ns ++ name ∷ after) distinct)

-- so beside the roots of before, and those of these that are done, its own of before
pub alike-known : (was new : RootKey → Option RootAnswer) (root : List ℕ) (done left : List (List ℕ)) → list_any (bytes_eq root) done ≡ false → list_any (bytes_eq root) left ≡ false
    → list_any (alike_root (root, new)) (places_over was (done ++ root ∷ left) ++ places_over new done) ≡ alike_root (root, new) (root, was)
alike-known was new root done left front behind =
    list_any-append (alike_root (root, new)) (places_over was (done ++ root ∷ left)) (places_over new done)
    ∙ or-none (list_any (alike_root (root, new)) (places_over new done)) (alike-none new new root done front) (list_any (alike_root (root, new)) (places_over was (done ++ root ∷ left)))
    ∙ alike-own was new root done left front behind

-- ---- roots whose own tasks are all known

module _ (bank : RootKey → Option RootAnswer) (itself : (root : List ℕ) → alike_root (root, bank) (root, bank) ≡ true) where
  -- one that stood there
  alike-there : (root : List ℕ) (names : List (List ℕ)) → list_any (bytes_eq root) names ≡ true → list_any (alike_root (root, bank)) (places_over bank names) ≡ true
  alike-there root [] h = absurd (false≢true h)
  alike-there root (n ∷ ns) h = by (bytes_eq root n) refl (alike-there root ns) h
    where
      rest : Bool
      rest = list_any (alike_root (root, bank)) (places_over bank ns)

      by : (b : Bool) → bytes_eq root n ≡ b → (list_any (bytes_eq root) ns ≡ true → rest ≡ true) → (b || list_any (bytes_eq root) ns) ≡ true
          → (alike_root (root, bank) (n, bank) || rest) ≡ true
      by true same behind h =
          or-first (alike_root (root, bank) (n, bank)) rest (subst (λ (m : List ℕ). alike_root (root, bank) (m, bank) ≡ true) ((bytes_decides root n).0 same) (itself root))
      by false other behind h = or-second (alike_root (root, bank) (n, bank)) rest (behind h)

  -- they are compared at all that they asked
  pub compared-stay : (roots : List (List ℕ)) (known : KnownTasks) → All (λ root. list_any (alike_root (root, bank)) known.roots ≡ true) roots
      → compared_in (met_among known bank roots) ≡ asked_among bytes_eq (option_eq answer_eq) expansion key_eq bank roots
  compared-stay [] known h = refl
  compared-stay (n ∷ ns) known h =
      let next = with_tasks known (tasks_of bank (n ∷ [])) in
      let P = λ (root : List ℕ). list_any (alike_root (root, bank)) known.roots ≡ true in
      let first : compared_in (met_at known bank n) ≡ length (expanded n bank).1 = compared-held known bank n (All-head P n ns h) in
      let rest = compared-stay ns next
      (All-weaker P (λ root. list_any (alike_root (root, bank)) next.roots ≡ true)
      (λ root is.
      list_any-append (alike_root (root, bank)) known.roots (places_over bank (n ∷ []))
      ∙ or-first (list_any (alike_root (root, bank)) known.roots) (list_any (alike_root (root, bank)) (places_over bank (n ∷ []))) is)
      ns (All-tail P n ns h)) in
      compared-first known bank n ns ∙ (λ i. first i + rest i)

  -- those that stood there
  pub all-alike : (before roots : List (List ℕ)) → All (λ root. list_any (bytes_eq root) before ≡ true) roots
      → All (λ root. list_any (alike_root (root, bank)) (places_over bank before) ≡ true) roots
  all-alike before roots h =
      All-weaker (λ root. list_any (bytes_eq root) before ≡ true) (λ root. list_any (alike_root (root, bank)) (places_over bank before) ≡ true)
      (λ root is. alike-there root before is) roots h
