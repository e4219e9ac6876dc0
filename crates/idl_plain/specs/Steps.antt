-- What a change of the open scopes, of the files entered, or of the prefix does: a line for each.
use Rattle.std.specs.Prelude.{◌+◌, ◌∷◌, drop}
use Rattle.idl_entity.specs.Identity.{no_prefix}
use Rattle.idl_env.specs.Facts.{World, after_closing, after_opening, count_in, given_back, nameless, path_around, prefix_in, scopes_in, with_answer, with_prefix}
use Rattle.idl_env.specs.declared.additions.addition.Step.{Step}
use Rattle.idl_env.specs.declared.additions.addition.Step.TheVariants.{Closes, Enters, Leaves, Opens, OpensNameless, Prefixes, Stays}
use Rattle.idl_env.specs.declared.answering.answer.Answer.TheVariants.{Count}
use Rattle.idl_env.specs.declared.keys.key.Key.TheVariants.{Cursor, Nameless, Opened, Prefix as PrefixKey}

abbrev pub stepped : World → Step → World
stepped w Stays = w
stepped w (Opens path kind) =
    let body = count_in (w.answers (Opened path)) + 1 in
    after_opening w (record { path = path; kind = kind; body = body })
stepped w (OpensNameless kind) =
    let count = count_in (w.answers Nameless) in
    let path = nameless count ∷ path_around (scopes_in (w.answers Cursor)) in
    let body = count_in (w.answers (Opened path)) + 1 in
    after_opening (record w { answers = with_answer Nameless (Count (count + 1)) w.answers })
    (record { path = path; kind = kind; body = body })
stepped w Closes = after_closing w (scopes_in (w.answers Cursor))
stepped w (Prefixes text) =
    let scope = path_around (scopes_in (w.answers Cursor)) in
    record w { answers = with_prefix (record { text = text; scope = scope }) w.answers }
stepped w Enters = record w {
  answers = with_prefix no_prefix w.answers;
  before = record w.before { entered = prefix_in (w.answers PrefixKey) ∷ w.before.entered };
}
stepped w Leaves = record w {
  answers = with_prefix (given_back w.before.entered) w.answers;
  before = record w.before { entered = drop 1 w.before.entered };
}
