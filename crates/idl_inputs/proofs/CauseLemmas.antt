-- Other answers at some keys, and which logs hold still.
use Rattle.std.proofs.Common.{◌≡◌, ◌≢◌, ◌∙◌, ◌||◌, Bool, true, false, not, All, List, [], ◌∷◌, Option, None, Some, refl, sym, ap}
use Rattle.std.proofs.lemmas.Bool.{false≢true, true≢false}
use Rattle.std.proofs.lemmas.List.Elements.{All-cons, All-head, All-nil, All-tail}
use Rattle.std.specs.Cmp.Lexicographic.{bytes_decides}
use Rattle.std.specs.List.{list_any}
use Rattle.idl_event.specs.Key.{key_code, key_eq, same_key}
use Rattle.idl_event.specs.declared.asked.key.RootAnswer.{RootAnswer}
use Rattle.idl_event.specs.declared.asked.key.RootKey.{RootKey}
use Rattle.idl_memo.specs.Cause.{IsCause}
use Rattle.idl_memo.specs.Query.{HoldsIn, is_logged}
use Rattle.idl_inputs.specs.Refiled.{AreCauses}

-- neither of two
pub neither : (a b : Bool) → (a || b) ≡ false → (a ≡ false) × (b ≡ false)
neither true b h = absurd (true≢false h)
neither false b h = (refl, h)

-- what isn't so
pub false-unless : (b : Bool) → (b ≡ true → ⊥) → b ≡ false
false-unless b never = by b refl
  where
    by : (a : Bool) → b ≡ a → b ≡ false
    by true is = absurd (never is)
    by false is = is

pub false-by-not : (b : Bool) → not b ≡ true → b ≡ false
false-by-not true h = absurd (false≢true h)
false-by-not false h = refl

-- a key is one with itself
pub key_eq-itself : (key : RootKey) → key_eq key key ≡ true
key_eq-itself key = (bytes_decides (key_code key) (key_code key)).1 refl

-- ---- one cause, or none

pub causes-none : (old new : RootKey → Option RootAnswer) → IsCause old new None → AreCauses old new []
causes-none old new same = record {
  other = All-nil (λ (k : RootKey). new k ≢ old k);
  same = λ k none. same k;
}

pub causes-one : (old new : RootKey → Option RootAnswer) (key : RootKey) → IsCause old new (Some key) → AreCauses old new (key ∷ [])
causes-one old new key cause = record {
  other = All-cons (λ (k : RootKey). new k ≢ old k) key [] cause.0 (All-nil (λ (k : RootKey). new k ≢ old k));
  same = λ k none. cause.1 k (λ is. true≢false (sym (ap (key_eq key) is ∙ key_eq-itself key) ∙ (neither (key_eq key k) false none).0));
}

-- ---- logs

-- none of these keys is that of the first entry, nor of another one
parted : (e : RootKey × Option RootAnswer) (log : List (RootKey × Option RootAnswer)) (causes : List RootKey) → list_any (is_logged key_eq (e ∷ log)) causes ≡ false
    → (list_any (λ cause. key_eq cause e.0) causes ≡ false) × (list_any (is_logged key_eq log) causes ≡ false)
parted e log [] h = (refl, refl)
parted e log (k ∷ ks) h =
    let all = neither (is_logged key_eq (e ∷ log) k) (list_any (is_logged key_eq (e ∷ log)) ks) h in
    let here = neither (key_eq k e.0) (is_logged key_eq log k) all.0 in
    let rest = parted e log ks all.1 in (
      ap (λ b. b || list_any (λ cause. key_eq cause e.0) ks) here.0 ∙ rest.0,
      ap (λ b. b || list_any (is_logged key_eq log) ks) here.1 ∙ rest.1,
    )

-- a log with none of the causes holds still
pub holds-beside : (old new : RootKey → Option RootAnswer) (causes : List RootKey) → AreCauses old new causes → (log : List (RootKey × Option RootAnswer))
    → list_any (is_logged key_eq log) causes ≡ false → HoldsIn old log → HoldsIn new log
holds-beside old new causes are [] none h = All-nil (λ (e : RootKey × Option RootAnswer). e.1 ≡ new e.0)
holds-beside old new causes are (e ∷ log) none h =
    let two = parted e log causes none in
    All-cons (λ (e : RootKey × Option RootAnswer). e.1 ≡ new e.0) e log
    (All-head (λ (e : RootKey × Option RootAnswer). e.1 ≡ old e.0) e log h ∙ sym (are.same e.0 two.0))
    (holds-beside old new causes are log two.1 (All-tail (λ (e : RootKey × Option RootAnswer). e.1 ≡ old e.0) e log h))

-- a key has one answer over two banks where a log with it holds in both
same-there : (old new : RootKey → Option RootAnswer) (key : RootKey) (log : List (RootKey × Option RootAnswer)) → is_logged key_eq log key ≡ true → HoldsIn old log → HoldsIn new log → new key ≡ old key
same-there old new key [] there was is = absurd (false≢true there)
same-there old new key (e ∷ log) there was is =
    by (key_eq key e.0) refl there
    (λ later.
    same-there old new key log later
    (All-tail (λ (e : RootKey × Option RootAnswer). e.1 ≡ old e.0) e log was)
    (All-tail (λ (e : RootKey × Option RootAnswer). e.1 ≡ new e.0) e log is))
  where
    by : (b : Bool) → key_eq key e.0 ≡ b → (b || is_logged key_eq log key) ≡ true → (is_logged key_eq log key ≡ true → new key ≡ old key) → new key ≡ old key
    by true here h rest =
        let one : key ≡ e.0 = same_key key e.0 here in
        ap new one
        ∙ sym (All-head (λ (e : RootKey × Option RootAnswer). e.1 ≡ new e.0) e log is)
        ∙ All-head (λ (e : RootKey × Option RootAnswer). e.1 ≡ old e.0) e log was
        ∙ ap old (sym one)
    by false other later rest = rest later

-- so a log with one of the causes holds no longer
pub stale-by : (old new : RootKey → Option RootAnswer) (causes : List RootKey) (log : List (RootKey × Option RootAnswer)) → All (λ k. new k ≢ old k) causes
    → list_any (is_logged key_eq log) causes ≡ true → HoldsIn old log → HoldsIn new log → ⊥
stale-by old new [] log others there was is = absurd (false≢true there)
stale-by old new (k ∷ ks) log others there was is =
    by (is_logged key_eq log k) refl there (λ later. stale-by old new ks log (All-tail (λ (k : RootKey). new k ≢ old k) k ks others) later was is)
  where
    by : (b : Bool) → is_logged key_eq log k ≡ b → (b || list_any (is_logged key_eq log) ks) ≡ true → (list_any (is_logged key_eq log) ks ≡ true → ⊥) → ⊥
    by true here h rest = All-head (λ (k : RootKey). new k ≢ old k) k ks others (same-there old new k log here was is)
    by false other later rest = rest later
