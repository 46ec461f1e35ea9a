-- What is read as an operation is spelled so, and what is spelled so is read.
use Rattle.std.proofs.Common.{◌≡◌, ◌<◌, ◌-◌, ℕ, zero, suc, Bool, true, false, List, [], ◌∷◌, ◌++◌, length, Option, None, Some, Ok, Err, refl, sym, ap, subst, ◌∙◌, cond, arith}
use Rattle.std.proofs.lemmas.Bool.Decides.{nat_tests}
use Rattle.refusal.specs.declared.kind.Kind.TheVariants.{BadExtended}
use Rattle.std.specs.Prelude.{◌==◌, nat_le, slice_index}
use Rattle.std.proofs.lemmas.Bool.{leb-true, leb-false, eqb-true, eq-eqb, le-leb, lt-leb}
use Rattle.std.proofs.lemmas.List.{append_assoc, append-nil, length-append}
use Rattle.byte_view.specs.Laws.{BeginsWith}
use Rattle.byte_view.specs.Reading.{Reading, SpellsField, SpellsUleb, field_at, run_at, uleb_at, sleb_at}
use Rattle.byte_view.proofs.Fronts.{field_at-spelled, run_at-spelled, uleb_at-spelled, sleb_at-spelled}
use Rattle.byte_view.proofs.Spellings.{field_at-again, run_at-again, uleb_at-again, sleb_at-again}
use Rattle.line_model.specs.declared.operation.Operation.{Operation}
use Rattle.line_model.specs.declared.operation.Operation.TheVariants.{Special, Pass}
use Rattle.line_model.specs.Header.{Header}
use Rattle.line_model.specs.Opcodes.{Operand, alone, unsigned, signed, fixed, standard_opcodes, extended_opcodes, look_up}
use Rattle.line_model.specs.Spelling.{SpellsOperand, AreUlebs, SpellsWithin, IsExtended, IsOpcode, special, standard, unknown, extended, Spells}
use Rattle.line_model.specs.Reading.{OperationReading, made, operand_at, behind_number, ulebs_at, standard_at, then_rest, within_at, of_code, code_at, of_run, of_length, extended_at, below_base_at, opcode_at, of_opcode, operation_at}
use Rattle.line_model.specs.Laws.{ReadIsSpelled, SpelledIsRead}

-- two answers are one
same_answer : (n m : Operation) (rest behind : List ℕ) → ◌≡◌ {A = OperationReading} (Ok (n, rest)) (Ok (m, behind)) → ◌≡◌ {A = Operation × List ℕ} (n, rest) (m, behind)
same_answer n m rest behind e = cc

same_operation : (n m : Operation) (rest behind : List ℕ) → ◌≡◌ {A = OperationReading} (Ok (n, rest)) (Ok (m, behind)) → n ≡ m
same_operation n m rest behind e = ap (λ (p : Operation × List ℕ). p.0) (same_answer n m rest behind e)

same_rest : (n m : Operation) (rest behind : List ℕ) → ◌≡◌ {A = OperationReading} (Ok (n, rest)) (Ok (m, behind)) → rest ≡ behind
same_rest n m rest behind e = ap (λ (p : Operation × List ℕ). p.1) (same_answer n m rest behind e)

-- a field of one byte is that byte
one_byte : (bytes : List ℕ) (n : ℕ) → SpellsField 1 bytes n → bytes ≡ n ∷ []
one_byte [] n spelled = absurd (omega (arith, spelled.sized))
one_byte (byte ∷ []) n spelled = let e : byte ≡ n = omega (arith, spelled.value) in ap (λ (b : ℕ). b ∷ []) e
one_byte (byte ∷ next ∷ more) n spelled = absurd (omega (arith, spelled.sized))

is_field : (byte : ℕ) → SpellsField 1 (byte ∷ []) byte
is_field byte = record { sized = refl; value = omega arith }

-- what an operand was made of
record IsMade {X : Type 0} (make : X → Operation) (reading : Reading X) (operation : Operation) (rest : List ℕ) : Type 0 where
  x : X
  read : reading ≡ Ok (x, rest)
  operation_is : operation ≡ make x

made_of : {X : Type 0} (make : X → Operation) (reading : Reading X) (operation : Operation) (rest : List ℕ) → made make reading ≡ Ok (operation, rest) → IsMade make reading operation rest
made_of make (Err fault) operation rest e = absurd cc
made_of make (Ok (x, behind)) operation rest e = record {
  x = x;
  read = ap (λ (r : List ℕ). Ok (x, r)) (same_rest (make x) operation behind rest e);
  operation_is = sym (same_operation (make x) operation behind rest e);
}

-- ---- what is read is spelled

operand_at-spelled : (operand : Operand) (bytes rest : List ℕ) (operation : Operation) → operand_at operand bytes ≡ Ok (operation, rest) → BeginsWith (SpellsOperand operand) bytes operation rest
operand_at-spelled (alone known) bytes rest operation e = record {
  front = [];
  spelled = (refl, sym (same_operation known operation bytes rest e));
  parts = same_rest known operation bytes rest e;
}
operand_at-spelled (unsigned make) bytes rest operation e =
    let m = made_of make (uleb_at bytes) operation rest e in
    let s = uleb_at-spelled bytes rest m.x m.read in
    record { front = s.front; spelled = (m.x, s.spelled, m.operation_is); parts = s.parts }
operand_at-spelled (signed make) bytes rest operation e =
    let m = made_of make (sleb_at bytes) operation rest e in
    let s = sleb_at-spelled bytes rest m.x m.read in
    record { front = s.front; spelled = (m.x, s.spelled, m.operation_is); parts = s.parts }
operand_at-spelled (fixed size make) bytes rest operation e =
    let m = made_of make (field_at size bytes) operation rest e in
    let s = field_at-spelled size bytes rest m.x m.read in
    record { front = s.front; spelled = (m.x, s.spelled, m.operation_is); parts = s.parts }

record ArePassed (count : ℕ) (bytes : List ℕ) (operation : Operation) (rest : List ℕ) : Type 0 where
  front : List ℕ
  ulebs : AreUlebs count front
  parts : bytes ≡ front ++ rest
  operation_is : operation ≡ Pass

ulebs_at-spelled : (count : ℕ) (bytes rest : List ℕ) (operation : Operation) → ulebs_at count bytes ≡ Ok (operation, rest) → ArePassed count bytes operation rest
unfolding ulebs_at
ulebs_at-spelled zero bytes rest operation e = record {
  front = [];
  ulebs = refl;
  parts = same_rest Pass operation bytes rest e;
  operation_is = sym (same_operation Pass operation bytes rest e);
}
ulebs_at-spelled (suc count) bytes rest operation e =
    go (uleb_at bytes) refl e (λ behind later. ulebs_at-spelled count behind rest operation later)
  where
    go : (reading : Reading ℕ) → uleb_at bytes ≡ reading → behind_number (ulebs_at count) reading ≡ Ok (operation, rest)
        → ((behind : List ℕ) → ulebs_at count behind ≡ Ok (operation, rest) → ArePassed count behind operation rest) → ArePassed (suc count) bytes operation rest
    go (Err fault) is e follows = absurd cc
    go (Ok (n, behind)) is e follows =
        let first = uleb_at-spelled bytes behind n is in
        let later = follows behind e in
        record {
          front = first.front ++ later.front;
          ulebs = (first.front, n, later.front, refl, first.spelled, later.ulebs);
          parts = first.parts ∙ ap (λ (r : List ℕ). first.front ++ r) later.parts ∙ sym (append_assoc first.front later.front rest);
          operation_is = later.operation_is;
        }

none_over : (front over : List ℕ) (size : ℕ) → length front ≡ size → length (front ++ over) ≡ size → over ≡ []
none_over front [] size a b = refl
none_over front (x ∷ xs) size a b = absurd (omega (arith, b, length-append front (x ∷ xs)))

-- a field that fills its bytes
field_fills : (size : ℕ) (bytes over : List ℕ) (n : ℕ) → length bytes ≡ size → BeginsWith (SpellsField size) bytes n over → SpellsField size bytes n
field_fills size bytes over n long s =
    let nothing : over ≡ [] = none_over s.front over size s.spelled.sized (sym (ap length s.parts) ∙ long) in
    let whole : s.front ≡ bytes = sym (s.parts ∙ ap (λ (r : List ℕ). s.front ++ r) nothing ∙ append-nil s.front) in
    subst (λ (b : List ℕ). SpellsField size b n) whole s.spelled

fitting_field : (size : ℕ) (make : ℕ → Operation) (bytes over : List ℕ) (operation : Operation) (fills : Bool) → (length bytes == size) ≡ fills
    → cond fills (made make (field_at size bytes)) (Err BadExtended) ≡ Ok (operation, over) → SpellsOperand (fixed size make) bytes operation
fitting_field size make bytes over operation false is e = absurd cc
fitting_field size make bytes over operation true is e =
    let m = made_of make (field_at size bytes) operation over e in
    (m.x, field_fills size bytes over m.x (eqb-true _ _ is) (field_at-spelled size bytes over m.x m.read), m.operation_is)

within_at-spelled : (operand : Option Operand) (bytes over : List ℕ) (operation : Operation) → within_at operand bytes ≡ Ok (operation, over) → SpellsWithin operand bytes operation
within_at-spelled None bytes over operation e = sym (same_operation Pass operation bytes over e)
within_at-spelled (Some (alone known)) bytes over operation e = sym (same_operation known operation bytes over e)
within_at-spelled (Some (unsigned make)) bytes over operation e =
    let s = operand_at-spelled (unsigned make) bytes over operation e in (s.front, over, s.parts, s.spelled)
within_at-spelled (Some (signed make)) bytes over operation e =
    let s = operand_at-spelled (signed make) bytes over operation e in (s.front, over, s.parts, s.spelled)
within_at-spelled (Some (fixed size make)) bytes over operation e =
    fitting_field size make bytes over operation (length bytes == size) refl e

-- the code of an extended opcode and what is behind it
record IsCoded (run : List ℕ) (operation : Operation) : Type 0 where
  code : ℕ
  behind : List ℕ
  run_is : run ≡ code ∷ behind
  spelled : SpellsWithin (look_up extended_opcodes code) behind operation

code_at-spelled : (run over : List ℕ) (operation : Operation) → code_at run ≡ Ok (operation, over) → IsCoded run operation
unfolding code_at
code_at-spelled run over operation e = go (field_at 1 run) refl e
  where
    go : (reading : Reading ℕ) → field_at 1 run ≡ reading → of_code reading ≡ Ok (operation, over) → IsCoded run operation
    go (Err fault) is e = absurd cc
    go (Ok (code, behind)) is e =
        let first = field_at-spelled 1 run behind code is in
        record {
          code = code;
          behind = behind;
          run_is = first.parts ∙ ap (λ (f : List ℕ). f ++ behind) (one_byte first.front code first.spelled);
          spelled = within_at-spelled (look_up extended_opcodes code) behind over operation e;
        }

-- the run of bytes of an extended opcode
record IsRun (size : ℕ) (bytes : List ℕ) (operation : Operation) (rest : List ℕ) : Type 0 where
  run : List ℕ
  parts : bytes ≡ run ++ rest
  sized : length run ≡ size
  coded : IsCoded run operation

then_rest-spelled : (run rest behind : List ℕ) (operation : Operation) (reading : OperationReading) → code_at run ≡ reading → then_rest behind reading ≡ Ok (operation, rest)
    → IsCoded run operation × (behind ≡ rest)
then_rest-spelled run rest behind operation (Err kind) is e = absurd cc
then_rest-spelled run rest behind operation (Ok (found, over)) is e =
    let same = same_operation found operation behind rest e in
    (code_at-spelled run over operation (is ∙ ap (λ (o : Operation). Ok (o, over)) same), same_rest found operation behind rest e)

of_run-spelled : (size : ℕ) (bytes rest : List ℕ) (operation : Operation) (reading : Reading (List ℕ)) → run_at size bytes ≡ reading → of_run reading ≡ Ok (operation, rest)
    → IsRun size bytes operation rest
of_run-spelled size bytes rest operation (Err fault) is e = absurd cc
of_run-spelled size bytes rest operation (Ok (run, behind)) is e =
    let s = run_at-spelled size bytes behind run is in
    let c = then_rest-spelled run rest behind operation (code_at run) refl e in
    let run_is : run ≡ s.front = s.spelled.value in
    record {
      run = run;
      parts = s.parts ∙ ap (λ (f : List ℕ). f ++ behind) (sym run_is) ∙ ap (λ (r : List ℕ). run ++ r) c.1;
      sized = ap length run_is ∙ s.spelled.sized;
      coded = c.0;
    }

of_length-spelled : (header : Header) (bytes rest : List ℕ) (operation : Operation) (reading : Reading ℕ) → 0 < header.opcode_base → uleb_at bytes ≡ reading
    → of_length reading ≡ Ok (operation, rest) → BeginsWith (IsOpcode header 0) bytes operation rest
of_length-spelled header bytes rest operation (Err fault) below is e = absurd cc
of_length-spelled header bytes rest operation (Ok (size, behind)) below is e =
    let first = uleb_at-spelled bytes behind size is in
    let r = of_run-spelled size behind rest operation (run_at size behind) refl e in
    let c = r.coded in
    let size_is : length (c.code ∷ c.behind) ≡ size = sym (ap length c.run_is) ∙ r.sized in
    record {
      front = first.front ++ c.code ∷ c.behind;
      spelled = extended (record {
        below_base = below;
        extended = refl;
        length_bytes = first.front;
        code = c.code;
        behind = c.behind;
        bytes_are = refl;
        sized = subst (SpellsUleb first.front) (sym size_is) first.spelled;
        spelled = c.spelled;
      });
      parts = first.parts ∙ ap (λ (r : List ℕ). first.front ++ r) (r.parts ∙ ap (λ (f : List ℕ). f ++ rest) c.run_is)
          ∙ sym (append_assoc first.front (c.code ∷ c.behind) rest);
    }

standard_at-spelled : (header : Header) (opcode : ℕ) (bytes rest : List ℕ) (operation : Operation) (known : Option Operand) → opcode < header.opcode_base → 0 < opcode
    → look_up standard_opcodes opcode ≡ known → standard_at known (slice_index header.opcode_lengths (opcode - 1)) bytes ≡ Ok (operation, rest)
    → BeginsWith (IsOpcode header opcode) bytes operation rest
standard_at-spelled header opcode bytes rest operation (Some operand) below some known e =
    let s = operand_at-spelled operand bytes rest operation e in
    record {
      front = s.front;
      spelled = standard (record { below_base = below; standard = some; operand = operand; known = known; spelled = s.spelled });
      parts = s.parts;
    }
standard_at-spelled header opcode bytes rest operation None below some known e =
    let s = ulebs_at-spelled (slice_index header.opcode_lengths (opcode - 1)) bytes rest operation e in
    record {
      front = s.front;
      spelled = unknown (record { below_base = below; standard = some; unknown = known; operands = s.ulebs; operation_is = s.operation_is });
      parts = s.parts;
    }

below_base_at-spelled : (header : Header) (opcode : ℕ) (bytes rest : List ℕ) (operation : Operation) (is_0 : Bool) → opcode < header.opcode_base → (opcode == 0) ≡ is_0
    → cond is_0 (extended_at bytes) (standard_at (look_up standard_opcodes opcode) (slice_index header.opcode_lengths (opcode - 1)) bytes) ≡ Ok (operation, rest)
    → BeginsWith (IsOpcode header opcode) bytes operation rest
unfolding extended_at
below_base_at-spelled header opcode bytes rest operation true below is e =
    let zero_is : opcode ≡ 0 = eqb-true _ _ is in
    subst (λ (o : ℕ). BeginsWith (IsOpcode header o) bytes operation rest) (sym zero_is)
    (of_length-spelled header bytes rest operation (uleb_at bytes) (omega arith) refl e)
below_base_at-spelled header opcode bytes rest operation false below is e =
    let some : 0 < opcode = above_0 opcode is in
    standard_at-spelled header opcode bytes rest operation (look_up standard_opcodes opcode) below some refl e
  where
    above_0 : (n : ℕ) → (n == 0) ≡ false → 0 < n
    above_0 n other = grind (arith, nat_tests)

opcode_at-spelled : (header : Header) (opcode : ℕ) (bytes rest : List ℕ) (operation : Operation) (is_special : Bool) → nat_le header.opcode_base opcode ≡ is_special
    → cond is_special (Ok (Special (opcode - header.opcode_base), bytes)) (below_base_at header opcode bytes) ≡ Ok (operation, rest)
    → BeginsWith (IsOpcode header opcode) bytes operation rest
opcode_at-spelled header opcode bytes rest operation true is e =
    record {
      front = [];
      spelled = special (record {
        from_base = leb-true _ _ is;
        nothing_behind = refl;
        operation_is = sym (same_operation (Special (opcode - header.opcode_base)) operation bytes rest e);
      });
      parts = same_rest (Special (opcode - header.opcode_base)) operation bytes rest e;
    }
opcode_at-spelled header opcode bytes rest operation false is e =
    below_base_at-spelled header opcode bytes rest operation (opcode == 0) (leb-false _ _ is) refl e

pub operation_at-spelled : ReadIsSpelled
unfolding operation_at
operation_at-spelled header bytes rest operation e = go (field_at 1 bytes) refl e
  where
    go : (reading : Reading ℕ) → field_at 1 bytes ≡ reading → of_opcode header reading ≡ Ok (operation, rest) → BeginsWith (Spells header) bytes operation rest
    go (Err fault) is e = absurd cc
    go (Ok (opcode, behind)) is e =
        let first = field_at-spelled 1 bytes behind opcode is in
        let s = opcode_at-spelled header opcode behind rest operation (nat_le header.opcode_base opcode) refl e in
        record {
          front = opcode ∷ s.front;
          spelled = s.spelled;
          parts = first.parts ∙ ap (λ (f : List ℕ). f ++ behind) (one_byte first.front opcode first.spelled) ∙ ap (λ (r : List ℕ). opcode ∷ r) s.parts;
        }

-- ---- what is spelled is read

same_made : (n m : Operation) (rest : List ℕ) → n ≡ m → ◌≡◌ {A = OperationReading} (Ok (m, rest)) (Ok (n, rest))
same_made n m rest e = ap (λ (o : Operation). Ok (o, rest)) (sym e)

operand_at-again : (operand : Operand) (bytes rest : List ℕ) (operation : Operation) → SpellsOperand operand bytes operation → operand_at operand (bytes ++ rest) ≡ Ok (operation, rest)
operand_at-again (alone known) bytes rest operation (nothing, is) =
    ap (λ (b : List ℕ). Ok (known, b ++ rest)) nothing ∙ same_made operation known rest is
operand_at-again (unsigned make) bytes rest operation (n, spelled, is) =
    ap (made make) (uleb_at-again bytes rest n spelled) ∙ same_made operation (make n) rest is
operand_at-again (signed make) bytes rest operation (z, spelled, is) =
    ap (made make) (sleb_at-again bytes rest z spelled) ∙ same_made operation (make z) rest is
operand_at-again (fixed size make) bytes rest operation (n, spelled, is) =
    ap (made make) (field_at-again size bytes rest n spelled) ∙ same_made operation (make n) rest is

ulebs_at-again : (count : ℕ) (bytes rest : List ℕ) → AreUlebs count bytes → ulebs_at count (bytes ++ rest) ≡ Ok (Pass, rest)
unfolding ulebs_at
ulebs_at-again zero bytes rest nothing = ap (λ (b : List ℕ). Ok (Pass, b ++ rest)) nothing
ulebs_at-again (suc count) bytes rest (first, n, more, parts, spelled, later) =
    let regrouped : bytes ++ rest ≡ first ++ (more ++ rest) = ap (λ (b : List ℕ). b ++ rest) parts ∙ append_assoc first more rest in
    ap (λ (b : List ℕ). behind_number (ulebs_at count) (uleb_at b)) regrouped
    ∙ ap (behind_number (ulebs_at count)) (uleb_at-again first (more ++ rest) n spelled)
    ∙ ulebs_at-again count more rest later

-- an operand within bytes of its own, and what is left over
record IsReadWithin (operand : Option Operand) (bytes : List ℕ) (operation : Operation) : Type 0 where
  over : List ℕ
  read : within_at operand bytes ≡ Ok (operation, over)

within_at-again : (operand : Option Operand) (bytes : List ℕ) (operation : Operation) → SpellsWithin operand bytes operation → IsReadWithin operand bytes operation
within_at-again None bytes operation is = record { over = bytes; read = same_made operation Pass bytes is }
within_at-again (Some (alone known)) bytes operation is = record { over = bytes; read = same_made operation known bytes is }
within_at-again (Some (unsigned make)) bytes operation (front, over, parts, spelled) = record {
  over = over;
  read = ap (operand_at (unsigned make)) parts ∙ operand_at-again (unsigned make) front over operation spelled;
}
within_at-again (Some (signed make)) bytes operation (front, over, parts, spelled) = record {
  over = over;
  read = ap (operand_at (signed make)) parts ∙ operand_at-again (signed make) front over operation spelled;
}
within_at-again (Some (fixed size make)) bytes operation (n, spelled, is) =
    let fills : (length bytes == size) ≡ true = eq-eqb _ _ spelled.sized in
    record {
      over = [];
      read = ap (λ b. cond b (made make (field_at size bytes)) (Err BadExtended)) fills
          ∙ ap (λ (b : List ℕ). made make (field_at size b)) (sym (append-nil bytes))
          ∙ operand_at-again (fixed size make) bytes [] operation (n, spelled, is);
    }

code_at-again : (code : ℕ) (behind rest : List ℕ) (operation : Operation) → SpellsWithin (look_up extended_opcodes code) behind operation
    → then_rest rest (code_at (code ∷ behind)) ≡ Ok (operation, rest)
unfolding code_at
code_at-again code behind rest operation spelled =
    let within = within_at-again (look_up extended_opcodes code) behind operation spelled in
    ap (λ r. then_rest rest (of_code r)) (field_at-again 1 (code ∷ []) behind code (is_field code))
    ∙ ap (then_rest rest) within.read

extended_at-again : (header : Header) (bytes rest : List ℕ) (operation : Operation) → IsExtended header 0 bytes operation → extended_at (bytes ++ rest) ≡ Ok (operation, rest)
unfolding extended_at
extended_at-again header bytes rest operation e =
    let run : List ℕ = e.code ∷ e.behind in
    let regrouped : bytes ++ rest ≡ e.length_bytes ++ (run ++ rest) =
    ap (λ (b : List ℕ). b ++ rest) e.bytes_are ∙ append_assoc e.length_bytes (e.code ∷ e.behind) rest in
    ap (λ (b : List ℕ). of_length (uleb_at b)) regrouped
    ∙ ap of_length (uleb_at-again e.length_bytes (run ++ rest) (length run) e.sized)
    ∙ ap of_run (run_at-again (length run) run rest run (record { sized = refl; value = refl }))
    ∙ code_at-again e.code e.behind rest operation e.spelled

is_not_0 : (n : ℕ) → 0 < n → (n == 0) ≡ false
is_not_0 n some = grind (arith, nat_tests)

opcode_at-again : (header : Header) (opcode : ℕ) (bytes rest : List ℕ) (operation : Operation) → IsOpcode header opcode bytes operation
    → opcode_at header opcode (bytes ++ rest) ≡ Ok (operation, rest)
opcode_at-again header opcode bytes rest operation (special s) =
    ap (λ b. cond b (Ok (Special (opcode - header.opcode_base), bytes ++ rest)) (below_base_at header opcode (bytes ++ rest))) (le-leb _ _ s.from_base)
    ∙ ap (λ (b : List ℕ). Ok (Special (opcode - header.opcode_base), b ++ rest)) s.nothing_behind
    ∙ same_made operation (Special (opcode - header.opcode_base)) rest s.operation_is
opcode_at-again header opcode bytes rest operation (standard s) =
    ap (λ b. cond b (Ok (Special (opcode - header.opcode_base), bytes ++ rest)) (below_base_at header opcode (bytes ++ rest))) (lt-leb _ _ s.below_base)
    ∙ ap (λ b. cond b (extended_at (bytes ++ rest)) (standard_at (look_up standard_opcodes opcode) (slice_index header.opcode_lengths (opcode - 1)) (bytes ++ rest))) (is_not_0 opcode s.standard)
    ∙ ap (λ k. standard_at k (slice_index header.opcode_lengths (opcode - 1)) (bytes ++ rest)) s.known
    ∙ operand_at-again s.operand bytes rest operation s.spelled
opcode_at-again header opcode bytes rest operation (unknown s) =
    ap (λ b. cond b (Ok (Special (opcode - header.opcode_base), bytes ++ rest)) (below_base_at header opcode (bytes ++ rest))) (lt-leb _ _ s.below_base)
    ∙ ap (λ b. cond b (extended_at (bytes ++ rest)) (standard_at (look_up standard_opcodes opcode) (slice_index header.opcode_lengths (opcode - 1)) (bytes ++ rest))) (is_not_0 opcode s.standard)
    ∙ ap (λ k. standard_at k (slice_index header.opcode_lengths (opcode - 1)) (bytes ++ rest)) s.unknown
    ∙ ulebs_at-again (slice_index header.opcode_lengths (opcode - 1)) bytes rest s.operands
    ∙ same_made operation Pass rest s.operation_is
opcode_at-again header opcode bytes rest operation (extended s) =
    let is_0 : (opcode == 0) ≡ true = eq-eqb _ _ s.extended in
    ap (λ b. cond b (Ok (Special (opcode - header.opcode_base), bytes ++ rest)) (below_base_at header opcode (bytes ++ rest))) (lt-leb _ _ s.below_base)
    ∙ ap (λ b. cond b (extended_at (bytes ++ rest)) (standard_at (look_up standard_opcodes opcode) (slice_index header.opcode_lengths (opcode - 1)) (bytes ++ rest))) is_0
    ∙ extended_at-again header bytes rest operation (subst (λ (o : ℕ). IsExtended header o bytes operation) s.extended s)

pub operation_at-again : SpelledIsRead
unfolding operation_at
operation_at-again header [] rest operation spelled = absurd spelled
operation_at-again header (opcode ∷ bytes) rest operation spelled =
    ap (of_opcode header) (field_at-again 1 (opcode ∷ []) (bytes ++ rest) opcode (is_field opcode))
    ∙ opcode_at-again header opcode bytes rest operation spelled
