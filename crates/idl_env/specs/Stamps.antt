-- Answers that are kept with the numbers of the facts that wrote them.
use Rattle.std.specs.Map.{lookup}
use Rattle.std.specs.Prelude.{ℕ, ◌+◌, Bool, List, Option, None, Some, if◌then◌else◌, length}
use Rattle.idl_env.specs.Facts.{UnitFacts, over, with_answer}
use Rattle.idl_env.specs.Written.{is_added, last_written}
use Rattle.idl_env.specs.declared.additions.addition.Addition.{Addition}
use Rattle.idl_env.specs.declared.answering.answer.Answer.{Answer}
use Rattle.idl_env.specs.declared.keys.key.Key.{Key}
use Rattle.idl_env.specs.keys.Key.{key_eq}

-- how many facts there are, and which of them wrote last at each key, from 1; 0 where none did
pub record Stamps : Type 0 where
  pub count : ℕ
  pub last : Key → ℕ

-- those of facts
abbrev pub stamps_of : List UnitFacts → Stamps
stamps_of facts = record { count = length facts; last = last_written facts }

-- one fact more, which has written nothing so far
abbrev pub with_one_more : Stamps → Stamps
with_one_more stamps = record stamps { count = stamps.count + 1 }

-- where the last facts write at these keys
abbrev pub stamped : (Key → Bool) → Stamps → Stamps
stamped writes stamps = record stamps {
  last = λ k. if writes k then stamps.count else stamps.last k;
}

-- the answer at each key, and by which facts
pub record Stamped : Type 0 where
  pub at : Key → Option Answer
  pub stamps : Stamps

-- where the last facts leave an answer at a key
abbrev pub with_stamped : Key → Answer → Stamped → Stamped
with_stamped k a told = record {
  at = with_answer k a told.at;
  stamps = stamped (λ q. key_eq q k) told.stamps;
}

-- where they leave those of these additions
abbrev pub stamped_over : List Addition → Stamped → Stamped
stamped_over additions told = record {
  at = λ k. over additions k (told.at k);
  stamps = stamped (is_added additions) told.stamps;
}

-- what is written, and by which facts
abbrev pub answer_in : Option (Answer × ℕ) → Option Answer
answer_in None = None
answer_in (Some written) = Some written.0

abbrev pub writer_in : Option (Answer × ℕ) → ℕ
writer_in None = 0
writer_in (Some written) = written.1

-- how answers are kept: what is written at each key, in entries of which the first counts, and how
-- many facts there are
pub record Kept : Type 0 where
  pub entries : List (Key × (Answer × ℕ))
  pub count : ℕ

-- what these tell
abbrev pub stamped_in : Kept → Stamped
stamped_in kept = record {
  at = λ k. answer_in (lookup (key_eq k) kept.entries);
  stamps = record {
    count = kept.count;
    last = λ k. writer_in (lookup (key_eq k) kept.entries);
  };
}
