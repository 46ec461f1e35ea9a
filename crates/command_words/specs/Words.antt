-- The words and the command that they spell, as the definitions see them.
use Rattle.std.specs.Prelude.{ℕ, nat_le, List, length, map, Option, None, Some, if◌then◌else◌}
use Rattle.std.specs.Option.{option_map}
use Rattle.std.specs.Global.{Vec}
use Rattle.std.specs.Int.NonZero.{non_zero_u16_get}
use Rattle.case_maker.specs.declared.case.CasePart.{CasePart}
use Rattle.case_maker.specs.declared.case.CasePart.TheVariants.{Bin, Perf, Cfg}
use Rattle.command_model.specs.Command as model
use Rattle.command_model.specs.Options as options
use Rattle.command_words.specs.declared.cold.Cold.{Cold}
use Rattle.command_words.specs.declared.cold.Cold.TheVariants.{Text, Profile as ColdProfile}
use Rattle.command_words.specs.declared.command.Command.{Command}
use Rattle.command_words.specs.declared.command.Command.TheVariants.{Counts, Where, Profile, Build, Check, Make, MakeSum, Merge, Summary, Lift}
use Rattle.command_words.specs.declared.command.Part.{Part}
use Rattle.command_words.specs.declared.options.Has.{Has}
use Rattle.command_words.specs.declared.options.Options.{Options}

-- The bytes of each word.
abbrev pub texts_of : List (Vec ℕ) → List (List ℕ)
texts_of words = map (λ w. w.items) words

-- What options say, apart from where the words lie.
abbrev pub told_options : Options → options.Options
told_options said =
    record { map = option_map (λ name. name.now) said.map; base = said.base; repairs = said.repairs }

abbrev pub told_has : Has → options.Has
told_has has = record { map = has.map; base = has.base; edges = has.edges; scaled = has.scaled }

abbrev pub told_part : CasePart → model.CaseFile
told_part Bin = model.bin_file
told_part Perf = model.perf_file
told_part Cfg = model.cfg_file

-- The weight of a file and its name.
abbrev pub told_weighed : Part → ℕ × List ℕ
told_weighed part = (non_zero_u16_get part.weight, part.file.now)

-- As many files as a merge may have.
abbrev pub few : List (ℕ × List ℕ) → Option (List (ℕ × List ℕ))
few parts = if nat_le (length parts) model.max_parts then Some parts else None

-- What is asked for, apart from where the words lie.
abbrev pub meaning_of : Command → model.Command
meaning_of (Counts perf) = model.counts perf.now
meaning_of (Where said binary address) = model.where_ (told_options said) binary.now address
meaning_of (Profile said binary perf) = model.profile (told_options said) binary.now perf.now
meaning_of (Build said binary perf blocks) = model.build (told_options said) binary.now perf.now blocks.now
meaning_of (Check blocks repairs) = model.check blocks.now repairs.now
meaning_of (Make part functions) = model.make (told_part part) functions
meaning_of (MakeSum functions) = model.make_sum functions
meaning_of (Merge parts) = model.merge (map told_weighed parts.items)
meaning_of (Summary file) = model.summary file.now
meaning_of (Lift said binary blocks built) = model.lift (told_options said) binary.now blocks.now built.now

-- What `pgo-cold` is asked for, likewise.
abbrev pub cold_meaning : Cold → model.Command
cold_meaning (Text said binary profile) = model.cold (told_options said) binary.now profile.now
cold_meaning (ColdProfile said binary perf) = model.cold_profile (told_options said) binary.now perf.now
