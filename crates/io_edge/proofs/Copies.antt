-- What is done of a copy that goes piece by piece.
use Rattle.std.proofs.Common.{◌≡◌, ℕ, List, [], ◌++◌, length, take, drop, Option, None, Some, refl, sym, ap, ◌∙◌, subst, append_assoc}
use Rattle.std.proofs.lemmas.List.{take-append-drop, append-nil}
use Rattle.std.proofs.KnownBytes.{Appends-nil, Appends-trans, Appends-kept, Consumes-nil, Consumes-trans}
use Rattle.std.proofs.Math.Seq.{take-append_seam}
use Rattle.std.specs.Io.KnownBytes.{Appends, Consumes, Keeps}
use Rattle.io_edge.specs.Sink.{AppendsPrefix}

-- bytes are written up to the rest
pub record Written (bytes rest : List ℕ) (old new : Option (List ℕ)) : Type 0 where
  pub front : List ℕ
  pub whole : bytes ≡ front ++ rest
  pub appended : Appends old new front

pub none_written : (bytes : List ℕ) (a : Option (List ℕ)) → Written bytes bytes a a
none_written bytes a = record { front = []; whole = refl; appended = Appends-nil a }

-- one more write
pub more_written : {bytes rest : List ℕ} {a b : Option (List ℕ)} (c : Option (List ℕ)) (n : ℕ) (next : List ℕ)
    → Written bytes rest a b → Appends b c (take n rest) → next ≡ drop n rest → Written bytes next a c
more_written {bytes} {rest} {a} {b} c n next done more is_next = record {
  front = done.front ++ take n rest;
  whole = done.whole ∙ ap (λ l. done.front ++ l) (sym (take-append-drop n rest)) ∙ sym (append_assoc done.front (take n rest) (drop n rest)) ∙ ap (λ l. (done.front ++ take n rest) ++ l) (sym is_next);
  appended = Appends-trans a b c done.front (take n rest) done.appended more;
}

prefix_of : (bytes rest : List ℕ) (a b : Option (List ℕ)) → Written bytes rest a b → AppendsPrefix a b bytes
prefix_of bytes rest a b done =
    let front_is : take (length done.front) bytes ≡ done.front = ap (take (length done.front)) done.whole ∙ take-append_seam done.front rest in
    (length done.front, subst (Appends a b) (sym front_is) done.appended)

-- a failed write leaves a prefix
pub stopped : {bytes rest : List ℕ} {a b : Option (List ℕ)} (c : Option (List ℕ)) → Written bytes rest a b → Keeps b c → AppendsPrefix a c bytes
stopped {bytes} {rest} {a} {b} c done kept =
    prefix_of bytes rest a c (record { front = done.front; whole = done.whole; appended = Appends-kept a b c done.front done.appended kept })

-- so does a failed end
pub unfinished : {bytes rest : List ℕ} {a b : Option (List ℕ)} (c : Option (List ℕ)) → Written bytes rest a b → c ≡ b → AppendsPrefix a c bytes
unfinished {bytes} {rest} {a} {b} c done same = subst (λ x. AppendsPrefix a x bytes) (sym same) (prefix_of bytes rest a b done)

-- without a rest all is written
pub all_written : {bytes rest : List ℕ} {a b : Option (List ℕ)} → Written bytes rest a b → rest ≡ [] → Appends a b bytes
all_written {bytes} {rest} {a} {b} done none =
    let whole : bytes ≡ done.front = done.whole ∙ ap (λ l. done.front ++ l) none ∙ append-nil done.front in
    subst (Appends a b) (sym whole) done.appended

-- what was read stands behind what was there, and is no longer left
pub record Read (before after : List ℕ) (old new : Option (List ℕ)) : Type 0 where
  pub got : List ℕ
  pub grown : after ≡ before ++ got
  pub consumed : Consumes old new got

pub none_read : (bytes : List ℕ) (a : Option (List ℕ)) → Read bytes bytes a a
none_read bytes a = record { got = []; grown = sym (append-nil bytes); consumed = Consumes-nil a }

-- one more read
pub more_read : {before after : List ℕ} {a b : Option (List ℕ)} (c : Option (List ℕ)) (piece : List ℕ) → Read before after a b
    → Consumes b c piece → Read before (after ++ piece) a c
more_read {before} {after} {a} {b} c piece done more = record {
  got = done.got ++ piece;
  grown = ap (λ l. l ++ piece) done.grown ∙ append_assoc before done.got piece;
  consumed = Consumes-trans a b c done.got piece done.consumed more;
}
