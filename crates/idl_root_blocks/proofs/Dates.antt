-- What is noted once, with a date, serves all open blocks: each has the entries before its start.
use Rattle.std.proofs.Common.{◌≡◌, ◌<◌, ◌≤◌, ◌⊎◌, inl, inr, ℕ, Bool, true, false, cond, ◌||◌, List, [], ◌∷◌, ◌++◌, Option, Some, append-nil, arith, map, refl, sym, ap, subst, ◌∙◌}
use Rattle.std.specs.Map.{lookup}
use Rattle.std.specs.Option.{unwrap_or}
use Rattle.std.specs.Prelude.{nat_lt}
use Rattle.std.proofs.lemmas.Bool.{le-ltb, lt-ltb, ltb-false, ltb-true}
use Rattle.std.proofs.lemmas.List.Folds.{list_any-append}
use Rattle.idl_base.proofs.Bools.{or-false}
use Rattle.idl_env.specs.Facts.{UnitFacts, answers}
use Rattle.idl_env.specs.SameKey.{same_key}
use Rattle.idl_env.specs.Written.{last_written}
use Rattle.idl_env.specs.declared.answering.answer.Answer.{Answer}
use Rattle.idl_env.specs.declared.keys.key.Key.{Key}
use Rattle.idl_env.specs.keys.Key.{key_eq}
use Rattle.idl_memo.specs.Dated.{entry_of}
use Rattle.idl_memo.specs.Query.{is_logged, noted, noted_all}
use Rattle.idl_memo.specs.declared.dated.Dated.{Dated}
use Rattle.idl_root_blocks.specs.Asking.{IsNoted, OpenBlock, asked_at, with_asked, with_dated}
use Rattle.idl_root_blocks.specs.Outer.{Log}

abbrev Asked : Type 0
Asked = List (Key × ℕ)

-- how many facts there were when a key was asked, behind the asking of another
pub asked_at-put : (old new : Asked) (k copy : Key) (n : ℕ) → copy ≡ k → ((q : Key) → lookup (key_eq q) new ≡ cond (key_eq q copy) (Some n) (lookup (key_eq q) old))
    → (q : Key) → asked_at new q ≡ cond (key_eq q k) n (asked_at old q)
asked_at-put old new k copy n same each q =
    ap (λ o. unwrap_or o 0) (each q)
    ∙ by (key_eq q copy)
    ∙ ap (λ c. cond (key_eq q c) n (asked_at old q)) same
  where
    by : (b : Bool) → unwrap_or (cond b (Some n) (lookup (key_eq q) old)) 0 ≡ cond b n (asked_at old q)
    by true = refl
    by false = refl

-- a key is logged behind the noting of another, if it was so before, or is that one
logged-noted : (bank : Key → Option Answer) (log : Log) (k q : Key) → is_logged key_eq (noted key_eq bank log k) q ≡ (is_logged key_eq log q || key_eq q k)
logged-noted bank log k q = by (is_logged key_eq log k) refl
  where
    again : is_logged key_eq log k ≡ true → (c : Bool) → key_eq q k ≡ c → is_logged key_eq log q ≡ (is_logged key_eq log q || c)
    again was false other = sym (or-false (is_logged key_eq log q))
    again was true one =
        let there : is_logged key_eq log q ≡ true = ap (is_logged key_eq log) (same_key q k one) ∙ was in
        there ∙ sym (ap (λ b. b || true) there)

    by : (b : Bool) → is_logged key_eq log k ≡ b → is_logged key_eq (cond b log (log ++ (k, bank k) ∷ [])) q ≡ (is_logged key_eq log q || key_eq q k)
    by true was = again was (key_eq q k) refl
    by false was =
        list_any-append (λ e. key_eq q e.0) log ((k, bank k) ∷ [])
        ∙ ap (λ c. is_logged key_eq log q || c) (or-false (key_eq q k))

or-cases : (a b : Bool) → (a || b) ≡ true → (a ≡ true) ⊎ (b ≡ true)
or-cases true b h = inl refl
or-cases false b h = inr h

or-first : (a b : Bool) → a ≡ true → (a || b) ≡ true
or-first a b h = ap (λ c. c || b) h

or-second : (a b : Bool) → b ≡ true → (a || b) ≡ true
or-second true b h = refl
or-second false b h = h

-- one open block, and a key that is asked next
module _ (asked : Asked) (facts : List UnitFacts) (block : OpenBlock) (right : IsNoted asked facts block) (k : Key) where
  -- what it has logged behind that, where the key is unwritten, or not
  abbrev behind : Bool → Log
  behind b = noted_all key_eq (answers facts) block.log (cond b (k ∷ []) [])

  -- what was asked or written since its entering is not noted again
  pub passed-block : (block.start ≤ last_written facts k) ⊎ (block.start ≤ asked_at asked k) → (v : Option Answer) → with_asked facts ((k, v) ∷ []) block ≡ block
  passed-block since v = λ i. record block { log = same (nat_lt (last_written facts k) block.start) refl i }
    where
      logged : last_written facts k < block.start → is_logged key_eq block.log k ≡ true
      logged below = by since
        where
          by_asked : (is_logged key_eq block.log k ≡ true) ⊎ (block.start ≤ last_written facts k) → is_logged key_eq block.log k ≡ true
          by_asked (inl there) = there
          by_asked (inr written) = absurd (omega (arith, below, written))

          by : (block.start ≤ last_written facts k) ⊎ (block.start ≤ asked_at asked k) → is_logged key_eq block.log k ≡ true
          by (inl written) = absurd (omega (arith, below, written))
          by (inr was) = by_asked (right.asked_since k was)

      same : (b : Bool) → nat_lt (last_written facts k) block.start ≡ b → behind b ≡ block.log
      same false is = refl
      same true is = ap (λ c. cond c block.log (block.log ++ (k, answers facts k) ∷ [])) (logged (ltb-true (last_written facts k) block.start is))

  -- an entry with the later of the numbers at which its key was asked and written goes where it is to be noted
  pub dated-block : (v : Option Answer) → v ≡ answers facts k → (d : ℕ) → asked_at asked k ≤ d → last_written facts k ≤ d
      → ((s : ℕ) → asked_at asked k < s → last_written facts k < s → d < s)
      → with_dated (record { key = k; answer = v; date = d }) block ≡ with_asked facts ((k, v) ∷ []) block
  dated-block v held d late_asked late_written least = λ i. record block { log = by (nat_lt (last_written facts k) block.start) refl i }
    where
      e : Dated Key Answer
      e = record { key = k; answer = v; date = d }

      goes : Bool → Log
      goes b = block.log ++ map entry_of (cond b (e ∷ []) [])

      ends : block.start ≤ d → goes (nat_lt d block.start) ≡ block.log
      ends late = ap goes (le-ltb d block.start late) ∙ append-nil block.log

      notes : (c : Bool) → is_logged key_eq block.log k ≡ c → cond c block.log (block.log ++ (k, answers facts k) ∷ []) ≡ behind true
      notes c is = ap (λ b. cond b block.log (block.log ++ (k, answers facts k) ∷ [])) (sym is)

      absent : asked_at asked k < block.start → (c : Bool) → is_logged key_eq block.log k ≡ c → goes true ≡ behind true
      absent before false is = ap (λ a. block.log ++ (k, a) ∷ []) held ∙ notes false is
      absent before true is = let since = right.logged k is in absurd (omega (arith, since, before))

      unwritten-log : last_written facts k < block.start → (b : Bool) → nat_lt (asked_at asked k) block.start ≡ b → goes (nat_lt d block.start) ≡ behind true
      unwritten-log below true is =
          let before : asked_at asked k < block.start = ltb-true (asked_at asked k) block.start is in
          ap goes (lt-ltb d block.start (least block.start before below))
          ∙ absent before (is_logged key_eq block.log k) refl
      unwritten-log below false is = by_asked (right.asked_since k since)
        where
          since : block.start ≤ asked_at asked k
          since = ltb-false (asked_at asked k) block.start is

          by_asked : (is_logged key_eq block.log k ≡ true) ⊎ (block.start ≤ last_written facts k) → goes (nat_lt d block.start) ≡ behind true
          by_asked (inl there) = ends (omega (arith, since, late_asked)) ∙ notes true there
          by_asked (inr written) = absurd (omega (arith, below, written))

      by : (b : Bool) → nat_lt (last_written facts k) block.start ≡ b → goes (nat_lt d block.start) ≡ behind b
      by true is = unwritten-log (ltb-true (last_written facts k) block.start is) (nat_lt (asked_at asked k) block.start) refl
      by false is = let since : block.start ≤ last_written facts k = ltb-false (last_written facts k) block.start is in ends (omega (arith, since, late_written))

  -- behind that it has noted rightly too, where the key is asked behind so many facts
  pub noted-block : (n : ℕ) → block.start ≤ n → (later : Asked) → ((q : Key) → asked_at later q ≡ cond (key_eq q k) n (asked_at asked q)) → (v : Option Answer)
      → IsNoted later facts (with_asked facts ((k, v) ∷ []) block)
  noted-block n entered later is_now v = record {
    logged = λ q h. logged q (nat_lt (last_written facts k) block.start) h;
    asked_since = λ q h. since q (key_eq q k) refl (nat_lt (last_written facts k) block.start) refl (subst (λ m. block.start ≤ m) (is_now q) h);
  }
    where
      now : (q : Key) (c : Bool) → key_eq q k ≡ c → block.start ≤ cond c n (asked_at asked q) → block.start ≤ asked_at later q
      now q c is h = subst (λ m. block.start ≤ m) (sym (is_now q ∙ ap (λ b. cond b n (asked_at asked q)) is)) h

      stays : (q : Key) → block.start ≤ asked_at asked q → block.start ≤ asked_at later q
      stays q was = by (key_eq q k) refl
        where
          by : (c : Bool) → key_eq q k ≡ c → block.start ≤ asked_at later q
          by true is = now q true is entered
          by false is = now q false is was

      one : (q : Key) → (is_logged key_eq block.log q ≡ true) ⊎ (key_eq q k ≡ true) → block.start ≤ asked_at later q
      one q (inl was) = stays q (right.logged q was)
      one q (inr is) = now q true is entered

      logged : (q : Key) (b : Bool) → is_logged key_eq (behind b) q ≡ true → block.start ≤ asked_at later q
      logged q false h = stays q (right.logged q h)
      logged q true h = one q (or-cases (is_logged key_eq block.log q) (key_eq q k) (sym (logged-noted (answers facts) block.log k q) ∙ h))

      more : (q : Key) (b : Bool) → is_logged key_eq block.log q ≡ true → is_logged key_eq (behind b) q ≡ true
      more q false was = was
      more q true was = logged-noted (answers facts) block.log k q ∙ or-first (is_logged key_eq block.log q) (key_eq q k) was

      since : (q : Key) (c : Bool) → key_eq q k ≡ c → (b : Bool) → nat_lt (last_written facts k) block.start ≡ b → block.start ≤ cond c n (asked_at asked q)
          → (is_logged key_eq (behind b) q ≡ true) ⊎ (block.start ≤ last_written facts q)
      since q true same true below h = inl (logged-noted (answers facts) block.log k q ∙ or-second (is_logged key_eq block.log q) (key_eq q k) same)
      since q true same false late h =
          inr (subst (λ p. block.start ≤ last_written facts p) (sym (same_key q k same)) (ltb-false (last_written facts k) block.start late))
      since q false other b is h = by_asked (right.asked_since q h)
        where
          by_asked : (is_logged key_eq block.log q ≡ true) ⊎ (block.start ≤ last_written facts q) → (is_logged key_eq (behind b) q ≡ true) ⊎ (block.start ≤ last_written facts q)
          by_asked (inl was) = inl (more q b was)
          by_asked (inr written) = inr written
