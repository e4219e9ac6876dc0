-- The numbers of tokens in their lines, one after another.
use Rattle.std.proofs.Common.{◌≡◌, ◌∙◌, ◌-◌, ◌<◌, ◌≤◌, ◌⊎◌, inl, inr, ℕ, zero, suc, Bool, true, false, List, [], ◌∷◌, ◌++◌, Option, None, Some, if◌then◌else◌, length, slice_get, arith, ap, refl, sym}
use Rattle.std.specs.Cmp.Lexicographic.{bytes_decides}
use Rattle.std.specs.Str.{bytes_eq}
use Rattle.std.specs.Prelude.{nat_eq}
use Rattle.std.proofs.lemmas.Option.{same_Some}
use Rattle.idl_base.specs.Exact.{both, same_number}
use Rattle.idl_event.specs.declared.told.event.Event.{Event}
use Rattle.idl_event.specs.declared.told.event.Event.TheVariants as event
use Rattle.idl_fault.specs.declared.place.Place.{Place}
use Rattle.idl_lex.specs.tokens.Tokens.{Token}
use Rattle.idl_finding.specs.Number.{AreNumbersOf, number_of_event, stands_at, token_number, tokens_before}

-- a token stands there
stood : (place : Place) (found : Option Event) → stands_at place found ≡ true → (token : Token) × (found ≡ Some (event.Emitted place token))
stood place None is = absurd cc
stood place (Some (event.Emitted at token)) is =
    let one = both (bytes_eq at.file place.file) (nat_eq at.line place.line) is in
    let file : at.file ≡ place.file = (bytes_decides at.file place.file).0 one.0 in
    let line : at.line ≡ place.line = same_number at.line place.line one.1 in
    (token, λ i. Some (event.Emitted (record { file = file i; line = line i }) token))
stood place (Some (event.Entered file)) is = absurd cc
stood place (Some (event.Left file)) is = absurd cc
stood place (Some (event.Pragma at tokens)) is = absurd cc
stood place (Some (event.Fault at code text)) is = absurd cc

if-few : (b : Bool) (n m : ℕ) → n ≤ m → (if b then suc n else 0) ≤ suc m
if-few true n m h = omega (arith, h)
if-few false n m h = omega arith

-- no more tokens stand before an event than there are events
few : (events : List Event) (place : Place) (n : ℕ) → tokens_before events place n ≤ n
few events place zero = omega arith
few events place (suc n) = if-few (stands_at place (slice_get events n)) (tokens_before events place n) n (few events place n)

module _ (events : List Event) (place : Place) where
  -- the number of the event before, where a token stands there at the same place
  number-before : (m : ℕ) → stands_at place (slice_get events m) ≡ true → token_number events m ≡ Some (tokens_before events place m)
  number-before m stands = ap (number_of_event events m) (stood place (slice_get events m) stands).1

  -- that number is less than the event's own
  number-below : (m n b : ℕ) → n ≡ suc m → stands_at place (slice_get events m) ≡ true → Some b ≡ token_number events m → b < n
  number-below m n b follows stands is =
      let before : b ≡ tokens_before events place m = same_Some b (tokens_before events place m) (is ∙ number-before m stands) in
      omega (arith, follows, before, few events place m)

  pub next-below : (n b : ℕ) → 0 < n → stands_at place (slice_get events (n - 1)) ≡ true → Some b ≡ token_number events (n - 1) → b < n
  next-below n b some stands is = number-below (n - 1) n b (omega (arith, some)) stands is

-- ---- one number more

get-pushed : {A : Type 0} (xs : List A) (x : A) (m : ℕ) (y : A) → slice_get (xs ++ x ∷ []) m ≡ Some y → (slice_get xs m ≡ Some y) ⊎ ((m ≡ length xs) × (x ≡ y))
get-pushed [] x zero y h = inr (refl, same_Some x y h)
get-pushed [] x (suc m) y h = absurd cc
get-pushed (z ∷ xs) x zero y h = inl h
get-pushed (z ∷ xs) x (suc m) y h = by (get-pushed xs x m y h)
  where
    by : (slice_get xs m ≡ Some y) ⊎ ((m ≡ length xs) × (x ≡ y)) → (slice_get (z ∷ xs) (suc m) ≡ Some y) ⊎ ((suc m ≡ length (z ∷ xs)) × (x ≡ y))
    by (inl found) = inl found
    by (inr last) = inr (ap suc last.0, last.1)

pub numbers-more : (events : List Event) (numbers : List (Option ℕ)) (n : ℕ) (number : Option ℕ) → AreNumbersOf events numbers → n ≡ length numbers → number ≡ token_number events n → AreNumbersOf events (numbers ++ number ∷ [])
numbers-more events numbers n number are long is m other found = by (get-pushed numbers number m other found)
  where
    by : (slice_get numbers m ≡ Some other) ⊎ ((m ≡ length numbers) × (number ≡ other)) → other ≡ token_number events m
    by (inl before) = are m other before
    by (inr last) = sym last.1 ∙ is ∙ ap (token_number events) (long ∙ sym last.0)
