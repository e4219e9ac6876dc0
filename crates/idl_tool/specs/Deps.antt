-- The rules of roots, by what they ask for.
use Rattle.std.specs.Prelude.{◌≡◌, ◌-◌, ◌&&◌, ◌||◌, ℕ, Bool, List, [], ◌∷◌, ◌++◌, All, None, Some, codes, drop, filter, is_some, length, map, not, take, if◌then◌else◌}
use Rattle.std.specs.FinMap as finite
use Rattle.std.specs.List.{flat_map}
use Rattle.std.specs.Str.{bytes_eq}
use Rattle.idl_source.specs.devices.Device.{append}
use Rattle.idl_source.specs.texts.Texts.{Texts}
use Rattle.idl_inputs.specs.Asked.{asked_over}
use Rattle.idl_inputs.specs.Bank.{bank_of}
use Rattle.idl_inputs.specs.Project.{Inputs}
use Rattle.idl_driver.specs.Written.{Written}
use Rattle.idl_driver.specs.Compiled.{is_faulty}
use Rattle.idl_loader.specs.Holding.{Holding}
use Rattle.idl_driver.specs.Compilations.{AreSoundFiles}
use Rattle.idl_driver.specs.declared.compilation.SoundFiles.{SoundFiles}
use Rattle.idl_loader.specs.declared.status.Status.{Status}
use Rattle.idl_loader.specs.declared.status.Status.TheVariants.{Sound, Faulty}
use Rattle.idl_tool.specs.Checked.{IsReportText}
use Rattle.idl_tool.specs.Messages.{AreTroubleMessages, ended_by}
use Rattle.idl_tool.specs.make_rules.Make.{IsMakeRule, Need, There, IfThere, Rule, rules_text}
use Rattle.idl_tool.specs.declared.request.Deps.{Deps}

-- a name without `.idl` at its end
abbrev pub stem : List ℕ → List ℕ
stem name =
    let n = length name - 4 in
    if bytes_eq (drop n name) (codes ".idl") then take n name else name

-- the target of a root's rule: the one that is given, or the root's listing
abbrev pub target_of : Deps → List ℕ → List ℕ
target_of deps root =
    elim deps.target [ None ↦ stem root ++ codes ".listing" | Some word ↦ word.now ]

abbrev pub is_there : Texts → List ℕ → Bool
is_there files name = is_some (finite.get files name)

-- an absent file counts if it is there, or is one that another rule makes
abbrev pub need_of : Bool → Texts → List ℕ → Need
need_of has_generated files name =
    if has_generated || is_there files name then There name else IfThere name

-- a rule without needs, so that make goes on where the file is removed
abbrev pub empty_rule : List ℕ → Rule
empty_rule name = record { target = name; needs = [] }

-- a file that is there and isn't the root
abbrev pub is_other : Texts → List ℕ → List ℕ → Bool
is_other files root name = not (bytes_eq name root) && is_there files name

-- a root's rule stands on these files, in order, and each other one that is there has an empty one
abbrev pub rules_for : Deps → Texts → List ℕ → List (List ℕ) → List Rule
rules_for deps files root asked =
    record { target = target_of deps root; needs = map (need_of deps.has_generated files) asked }
    ∷ map empty_rule (filter (is_other files root) asked)

-- all that a root asks for, or what is there of it
abbrev pub wanted_in : Deps → Inputs → List ℕ → List (List ℕ)
wanted_in deps inputs root =
    let asked = asked_over (bank_of inputs) root in
    if deps.leaves_absent then filter (is_there inputs.files) asked else asked

abbrev pub rules_in : Deps → Inputs → List ℕ → List Rule
rules_in deps inputs root = rules_for deps inputs.files root (wanted_in deps inputs root)

-- what rules stand on, one after the other
abbrev pub needs_of : List Rule → List Need
needs_of rules = flat_map (λ rule. rule.needs) rules

-- what is wanted of what compiling a root asks for, in order: files that have to be there, and
-- files that count if they are
abbrev pub needs_in : Deps → Inputs → List ℕ → List Need
needs_in deps inputs root =
    map (need_of deps.has_generated inputs.files) (wanted_in deps inputs root)

-- what went out of files, and how the program ends
pub record AreRuled (deps : Deps) (files : SoundFiles) (before after : Written) (status : Status)
    : Type 0 where
  pub trouble : List ℕ
  pub troubles : AreTroubleMessages files trouble
  pub reports : List ℕ
  pub reported : IsReportText files.sound.sources files.sound.roots.items reports
  pub errors : after.errors ≡ append (append before.errors trouble) reports
  pub output : after.output ≡ append before.output
      (rules_text (flat_map (rules_in deps files.sound.sources) files.sound.roots.items))
  pub readable : All IsMakeRule
      (flat_map (rules_in deps files.sound.sources) files.sound.roots.items)
  pub ending : status ≡ ended_by files
      (if is_faulty files.sound.sources files.sound.roots.items then Faulty else Sound)

-- the rules are of the files that come without trouble, and the trouble of the others is told
pub record IsServed (told : List ℕ → Holding) (deps : Deps) (before after : Written)
    (status : Status) : Type 0 where
  pub all : SoundFiles
  pub files : AreSoundFiles told deps.options all
  pub ruled : AreRuled deps all before after status
