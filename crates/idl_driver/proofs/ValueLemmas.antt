-- The values that stand for an option.
use Rattle.std.proofs.Common.{◌≡◌, ◌∙◌, List, [], Option, None, Some, ap, map, option_map, sym, unwrap_or}
use Rattle.std.specs.Borrow.{Bor}
use Rattle.clap.specs.Words.{Text, matched_of, raw_values, rows_of}
use Rattle.clap.specs.declared.parser.matches.Found.{Found}
use Rattle.clap.proofs.WalkLemmas.{raw_values-rows}
use Rattle.idl_driver.specs.Words.{values_of}

-- the values that a getter gives
pub values_given : (f : Found) (id : Text) (given : Option (Bor (List (Bor Text)))) → option_map (λ s. map (λ v. v.now) s.now) given ≡ option_map raw_values (matched_of f id)
    → unwrap_or (option_map (λ s. map (λ v. v.now) s.now) given) [] ≡ values_of id (rows_of f)
values_given f id given e = ap (λ (o : Option (List Text)). unwrap_or o []) (e ∙ raw_values-rows f id)

pub some_given : (f : Found) (id : Text) (o : Option (Bor (List (Bor Text)))) (given : Bor (List (Bor Text))) → o ≡ Some given
    → option_map (λ s. map (λ v. v.now) s.now) o ≡ option_map raw_values (matched_of f id) → map (λ v. v.now) given.now ≡ values_of id (rows_of f)
some_given f id o given is e =
    sym (ap (λ (p : Option (Bor (List (Bor Text)))). unwrap_or (option_map (λ s. map (λ v. v.now) s.now) p) []) is) ∙ values_given f id o e

pub none_given : (f : Found) (id : Text) (o : Option (Bor (List (Bor Text)))) → o ≡ None
    → option_map (λ s. map (λ v. v.now) s.now) o ≡ option_map raw_values (matched_of f id) → [] ≡ values_of id (rows_of f)
none_given f id o is e =
    sym (ap (λ (p : Option (Bor (List (Bor Text)))). unwrap_or (option_map (λ s. map (λ v. v.now) s.now) p) []) is) ∙ values_given f id o e
