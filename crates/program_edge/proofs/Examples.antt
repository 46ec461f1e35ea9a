-- The definitions on worked values.
use Rattle.std.proofs.Common.{◌≡◌, ℕ, zero, suc, true, false, [], inl, inr, refl, arith}
use Rattle.std.specs.Prelude.{codes, ◌-◌, ◌^◌, ⊤}
use Rattle.std.specs.Fmt.{digits}
use Rattle.refusal.specs.declared.kind.Kind.TheVariants.{BadLine}
use Rattle.refusal.specs.declared.place.Place.{Place}
use Rattle.io_edge.specs.Faults.{Rises}
use Rattle.command_model.specs.Command.{Command, check, make_sum}
use Rattle.program_edge.specs.declared.status.Status.TheVariants.{Done, CheckFailed, Usage, NoSuchFile, Refused, ReadFault, WriteFault, NoMemory}
use Rattle.program_edge.specs.Opens.{AgreesWithOpens, ReachesAll, ReachesSome, opens_behind}
use Rattle.program_edge.specs.Run.{ComesExactly, IsCutShort, IsWithoutFault, IsWithoutOutput}
use Rattle.program_edge.specs.Status.{code_of, line_of}

silent : line_of [] Done ≡ []
silent = refl

-- a bad line in this file
abbrev bad_in : ℕ → Place
bad_in k = record { file = k; at = 20000; kind = BadLine }

refusal : line_of [] (Refused (bad_in 1)) ≡ codes "refused: file 1 at 20000: BadLine\n"
unfolding digits
refusal = refl

failed_line : line_of [] (CheckFailed 7) ≡ codes "check failed at line 7\n"
unfolding digits
failed_line = refl

missing : line_of [] (NoSuchFile 2) ≡ codes "no such file: 2\n"
unfolding digits
missing = refl

unread : line_of [] (ReadFault 1) ≡ codes "read fault: file 1\n"
unfolding digits
unread = refl

codes_in_order : (code_of Done ≡ 0) × (code_of (CheckFailed 7) ≡ 1) × (code_of Usage ≡ 2) × (code_of (NoSuchFile 1) ≡ 3) × (code_of (Refused (bad_in 1)) ≡ 4) × (code_of (ReadFault 1) ≡ 5) × (code_of WriteFault ≡ 6) × (code_of NoMemory ≡ 7)
codes_in_order = (refl, refl, refl, refl, refl, refl, refl, refl)

-- A count of opens stands still at its end.
opens : (opens_behind 3 2 ≡ 5) × (opens_behind (2 ^ 64 - 2) 2 ≡ 2 ^ 64 - 1)
opens = (refl, refl)

-- ---- a count of faults

one_more_rises : Rises 4 5
one_more_rises = record { later = omega arith; rose = inl (omega arith); bounded = omega arith }

many_more_rise : Rises 4 9
many_more_rise = record { later = omega arith; rose = inl (omega arith); bounded = omega arith }

the_same_does_not : Rises 4 4 → ⊥
the_same_does_not rises = grind (arith, rises.rose)

one_less_does_not : Rises 5 4 → ⊥
one_less_does_not rises = omega (arith, rises.later)

-- At its end a count stands still, and is not passed.
the_end_rises : Rises (2 ^ 64 - 1) (2 ^ 64 - 1)
the_end_rises = record { later = omega arith; rose = inr refl; bounded = omega arith }

none_is_past_the_end : Rises 4 (2 ^ 64) → ⊥
none_is_past_the_end rises = omega (arith, rises.bounded)

-- ---- the tests of a status, on all eight

no_output : (IsWithoutOutput Done → ⊥) × IsWithoutOutput (CheckFailed 7) × IsWithoutOutput Usage × IsWithoutOutput (NoSuchFile 1)
    × IsWithoutOutput (Refused (bad_in 1)) × IsWithoutOutput (ReadFault 1) × (IsWithoutOutput WriteFault → ⊥) × IsWithoutOutput NoMemory
no_output = (λ is. is, tt, tt, tt, tt, tt, λ is. is, tt)

no_fault : IsWithoutFault Done × IsWithoutFault (CheckFailed 7) × IsWithoutFault Usage × IsWithoutFault (NoSuchFile 1)
    × IsWithoutFault (Refused (bad_in 1)) × (IsWithoutFault (ReadFault 1) → ⊥) × (IsWithoutFault WriteFault → ⊥) × IsWithoutFault NoMemory
no_fault = (tt, tt, tt, tt, tt, λ is. is, λ is. is, tt)

cut_short : (IsCutShort Done → ⊥) × (IsCutShort (CheckFailed 7) → ⊥) × (IsCutShort Usage → ⊥) × (IsCutShort (NoSuchFile 1) → ⊥)
    × (IsCutShort (Refused (bad_in 1)) → ⊥) × IsCutShort (ReadFault 1) × IsCutShort WriteFault × IsCutShort NoMemory
cut_short = (λ is. is, λ is. is, λ is. is, λ is. is, λ is. is, tt, tt, tt)

-- ---- a status that comes exactly for its cause

with_its_cause : ComesExactly (NoSuchFile 1) (NoSuchFile 1) ⊤
with_its_cause = (λ same. tt, λ cause. inl refl)

without_either : ComesExactly Done (NoSuchFile 1) ⊥
without_either = (λ same. absurd cc, λ cause. absurd cause)

not_without_its_cause : ComesExactly (NoSuchFile 1) (NoSuchFile 1) ⊥ → ⊥
not_without_its_cause exact = exact.0 refl

-- What is due is passed over only where the call was cut short.
not_in_place_of_it : ComesExactly Done (NoSuchFile 1) ⊤ → ⊥
not_in_place_of_it exact = elim (exact.1 tt) [ inl same ↦ absurd cc | inr cut ↦ cut ]

not_another_file : ComesExactly (NoSuchFile 2) (NoSuchFile 1) ⊤ → ⊥
not_another_file exact = elim (exact.1 tt) [ inl same ↦ absurd cc | inr cut ↦ cut ]

but_cut_short : ComesExactly NoMemory (NoSuchFile 1) ⊤
but_cut_short = (λ same. tt, λ cause. inr tt)

-- ---- opens, by what a command of two files came to, behind three opens

abbrev two : Command
two = check [] []

the_first_is_missing : AgreesWithOpens two (NoSuchFile 1) 3 4
the_first_is_missing = record { reached = record { first = omega arith; last = omega arith; opened = refl }; is_named = refl }

the_second_is_missing : AgreesWithOpens two (NoSuchFile 2) 3 5
the_second_is_missing = record { reached = record { first = omega arith; last = omega arith; opened = refl }; is_named = refl }

none_is_missing : AgreesWithOpens two Done 3 5 × AgreesWithOpens two (CheckFailed 7) 3 5 × AgreesWithOpens two WriteFault 3 5
none_is_missing = (refl, refl, refl)

-- The second is not opened where the first is missing, and both are where the second is.
not_both : AgreesWithOpens two (NoSuchFile 1) 3 5 → ⊥
not_both is = omega (arith, is.reached.opened)

not_the_first_alone : AgreesWithOpens two (NoSuchFile 2) 3 4 → ⊥
not_the_first_alone is = omega (arith, is.reached.opened)

no_file_0 : AgreesWithOpens two (NoSuchFile 0) 3 3 → ⊥
no_file_0 is = omega (arith, is.reached.first)

no_third_file : AgreesWithOpens two (NoSuchFile 3) 3 5 → ⊥
no_third_file is = omega (arith, is.reached.last)

a_bad_second : AgreesWithOpens two (Refused (bad_in 2)) 3 5 × (AgreesWithOpens two (Refused (bad_in 1)) 3 5 → ⊥)
a_bad_second = (record { first = omega arith; last = omega arith; opened = refl }, λ is. omega (arith, is.opened))

an_unread_second : AgreesWithOpens two (ReadFault 2) 3 5 × (AgreesWithOpens two (ReadFault 1) 3 5 → ⊥)
an_unread_second = (record { reached = record { first = omega arith; last = omega arith; opened = refl }; is_named = refl }, λ is. omega (arith, is.reached.opened))

not_before_all : (AgreesWithOpens two Done 3 4 → ⊥) × (AgreesWithOpens two (CheckFailed 7) 3 4 → ⊥) × (AgreesWithOpens two WriteFault 3 4 → ⊥)
not_before_all = (λ is. omega (arith, is), λ is. omega (arith, is), λ is. omega (arith, is))

a_command_is_no_usage : AgreesWithOpens two Usage 3 3 → ⊥
a_command_is_no_usage is = is

-- Memory may be refused before a file is opened, behind the first and behind both.
no_memory : AgreesWithOpens two NoMemory 3 3 × AgreesWithOpens two NoMemory 3 4 × AgreesWithOpens two NoMemory 3 5
no_memory = ((0, omega arith, refl), (1, omega arith, refl), (2, omega arith, refl))

not_behind_a_third : ReachesSome two 3 6 → ⊥
not_behind_a_third (zero, within, opened) = omega (arith, opened)
not_behind_a_third (suc zero, within, opened) = omega (arith, opened)
not_behind_a_third (suc (suc zero), within, opened) = omega (arith, opened)
not_behind_a_third (suc (suc (suc k)), within, opened) = omega (arith, within)

all_of_two : ReachesAll two 3 5 × (ReachesAll two 3 4 → ⊥)
all_of_two = (refl, λ is. omega (arith, is))

-- What the program makes is not opened: it may be refused, and cannot be missing or unread.
made_files : AgreesWithOpens (make_sum 1) Done 3 3 × AgreesWithOpens (make_sum 1) (Refused (bad_in 2)) 3 3
made_files = (refl, record { first = omega arith; last = omega arith; opened = refl })

none_is_unread : (AgreesWithOpens (make_sum 1) (ReadFault 2) 3 3 → ⊥) × (AgreesWithOpens (make_sum 1) (NoSuchFile 2) 3 3 → ⊥)
none_is_unread = (λ is. let false_is : false ≡ true = is.is_named in absurd cc, λ is. let false_is : false ≡ true = is.is_named in absurd cc)
