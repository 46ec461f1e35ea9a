-- Two numberings of the names of the same members tell the same places.
use Rattle.std.proofs.Common.{◌≡◌, ◌<◌, ◌+◌, ◌==◌, ◌&&◌, ℕ, Bool, true, false, nat_lt, List, [], ◌∷◌, ◌++◌, length, Option, None, Some, refl, sym, ap, subst, ◌∙◌, arith}
use Rattle.std.specs.Prelude.{map, slice_get, unwrap_or, option_and_then, if◌then◌else◌}
use Rattle.std.specs.Option.{option_map}
use Rattle.std.specs.List.{All, AllZip, enumerate_from, list_any}
use Rattle.std.proofs.lemmas.List.Elements.{All-cons}
use Rattle.std.proofs.lemmas.Option.{slice_get_within}
use Rattle.key_types.specs.declared.ids.NameId.{NameId}
use Rattle.key_types.specs.declared.key.Frame.{Frame}
use Rattle.key_types.specs.declared.key.Key.{Key}
use Rattle.key_types.specs.declared.places.Where.{Where}
use Rattle.chain_model.specs.declared.member.Member.{Member}
use Rattle.chain_model.specs.Chains.{chain, holds, holds_at, piece_holds}
use Rattle.chain_model.specs.Pass.{chain_from}
use Rattle.chain_model.proofs.PassLemmas.{one_pass}
use Rattle.chain_model.specs.Places.{LineAndDisc, Place, Tells, chain_members, frames, has_key, key, kept, last_start, line_offset, nameless, no_line, outside, place_at, place_by, place_of, row_of}
use Rattle.entry_facts.specs.Meaning.{IsNumberOf}
use Rattle.tree_model.specs.Members.{Told}
use Rattle.inline_tree.specs.Told.{AreTold}
use Rattle.profile_model.specs.Ways.{Step, to_body, to_call, to_function}
use Rattle.binary_model.specs.Places.{in_names, way_of}
use Rattle.key_types.specs.Numbers.{name_of}
use Rattle.binary_places.specs.Binary.{IsGiven, TellsNamed}

module _ (ns ks : List (List ℕ)) where
  -- a number among the ones and a number among the others are of the same name
  abbrev SameName : Option NameId → Option NameId → Type 0
  SameName None None = Unit {0}
  SameName None (Some j) = ⊥
  SameName (Some i) None = ⊥
  SameName (Some i) (Some j) = (name : List ℕ) × (slice_get ns i.0 ≡ Some name) × (slice_get ks j.0 ≡ Some name)

  record Alike (m c : Member) : Type 0 where
    depth_is : m.depth ≡ c.depth
    unit_is : m.unit ≡ c.unit
    name_is : SameName m.name c.name
    start_is : m.start ≡ c.start
    line_is : m.line ≡ c.line
    disc_is : m.disc ≡ c.disc
    pieces_are : m.pieces ≡ c.pieces

  abbrev AlikeNumbered : ℕ × Member → ℕ × Member → Type 0
  AlikeNumbered p q = Alike p.1 q.1

  same-name : (name : Option (List ℕ)) (i j : Option NameId) → IsNumberOf ns name i → IsNumberOf ks name j → SameName i j
  same-name name None None h k = tt
  same-name None None (Some j) h k = absurd cc
  same-name None (Some i) None h k = absurd cc
  same-name None (Some i) (Some j) h k = absurd cc
  same-name (Some x) None (Some j) h k = absurd cc
  same-name (Some x) (Some i) None h k = absurd cc
  same-name (Some x) (Some i) (Some j) h k = (x, h.1, k.1)

  alike : (tolds : List Told) (ms cs : List Member) → AreTold ns tolds ms → AreTold ks tolds cs → AllZip Alike ms cs
  alike [] [] [] h k = tt
  alike [] [] (c ∷ cs) h k = absurd k
  alike [] (m ∷ ms) cs h k = absurd h
  alike (t ∷ tolds) [] cs h k = absurd h
  alike (t ∷ tolds) (m ∷ ms) [] h k = absurd k
  alike (t ∷ tolds) (m ∷ ms) (c ∷ cs) h k =
      let x = h.0 in
      let y = k.0 in (
        record {
          depth_is = x.depth_is ∙ sym y.depth_is;
          unit_is = x.unit_is ∙ sym y.unit_is;
          name_is = same-name t.name m.name c.name x.name_is y.name_is;
          start_is = x.start_is ∙ sym y.start_is;
          line_is = x.line_is ∙ sym y.line_is;
          disc_is = x.disc_is ∙ sym y.disc_is;
          pieces_are = x.pieces_are ∙ sym y.pieces_are;
        },
        alike tolds ms cs h.1 k.1,
      )

  -- ---- chains

  numbered-alike : (n : ℕ) (ms cs : List Member) → AllZip Alike ms cs → AllZip AlikeNumbered (enumerate_from n ms) (enumerate_from n cs)
  numbered-alike n [] [] h = tt
  numbered-alike n [] (c ∷ cs) h = absurd h
  numbered-alike n (m ∷ ms) [] h = absurd h
  numbered-alike n (m ∷ ms) (c ∷ cs) h = (h.0, numbered-alike (n + 1) ms cs h.1)

  same-holds : (depth address : ℕ) (m c : Member) → Alike m c → holds_at depth address m ≡ holds_at depth address c
  same-holds depth address m c a =
      ap (λ d. d == depth && holds address m) a.depth_is ∙ ap (λ ps. c.depth == depth && list_any (piece_holds address) ps) a.pieces_are

  -- a chain by whether its first member is too shallow, and whether it holds the address
  abbrev chain_by : Bool → Bool → ℕ → ℕ × Member → (ℕ → List (ℕ × Member)) → List (ℕ × Member)
  chain_by shallow holds depth p next =
      if shallow then [] else ((if holds then p ∷ [] else []) ++ next (if holds then depth + 1 else depth))

  one-alike : (shallow holds : Bool) (depth : ℕ) (p q : ℕ × Member) (next other : ℕ → List (ℕ × Member)) → AlikeNumbered p q
      → ((d : ℕ) → AllZip AlikeNumbered (next d) (other d)) → AllZip AlikeNumbered (chain_by shallow holds depth p next) (chain_by shallow holds depth q other)
  one-alike true holds depth p q next other a more = tt
  one-alike false true depth p q next other a more = (a, more (depth + 1))
  one-alike false false depth p q next other a more = more depth

  chain-alike : (address depth : ℕ) (ps qs : List (ℕ × Member)) → AllZip AlikeNumbered ps qs → AllZip AlikeNumbered (chain_from depth address ps) (chain_from depth address qs)
  chain-alike address depth [] [] h = tt
  chain-alike address depth [] (q ∷ qs) h = absurd h
  chain-alike address depth (p ∷ ps) [] h = absurd h
  chain-alike address depth (p ∷ ps) (q ∷ qs) h =
      let next = λ (d : ℕ). chain_from d address ps in
      let other = λ (d : ℕ). chain_from d address qs in
      let a : Alike p.1 q.1 = h.0 in
      subst (λ b. AllZip AlikeNumbered (chain_by (nat_lt p.1.depth depth) (holds_at depth address p.1) depth p next) (chain_by b (holds_at depth address q.1) depth q other))
      (ap (λ n. nat_lt n depth) a.depth_is)
      (subst (λ b. AllZip AlikeNumbered (chain_by (nat_lt p.1.depth depth) (holds_at depth address p.1) depth p next) (chain_by (nat_lt p.1.depth depth) b depth q other))
      (same-holds depth address p.1 q.1 a)
      (one-alike (nat_lt p.1.depth depth) (holds_at depth address p.1) depth p q next other a (λ d. chain-alike address d ps qs h.1)))

  members-alike : (ps qs : List (ℕ × Member)) → AllZip AlikeNumbered ps qs → AllZip Alike (map (λ p. p.1) ps) (map (λ q. q.1) qs)
  members-alike [] [] h = tt
  members-alike [] (q ∷ qs) h = absurd h
  members-alike (p ∷ ps) [] h = absurd h
  members-alike (p ∷ ps) (q ∷ qs) h = (h.0, members-alike ps qs h.1)

  -- ---- keys

  abbrev step_of : List (List ℕ) → Frame → Step
  step_of names call = to_call call.offset call.disc (name_of names call.name)

  abbrev SameFrames : Option (List Frame) → Option (List Frame) → Type 0
  SameFrames None None = Unit {0}
  SameFrames None (Some gs) = ⊥
  SameFrames (Some fs) None = ⊥
  SameFrames (Some fs) (Some gs) = (map (step_of ns) fs ≡ map (step_of ks) gs) × All (λ call. call.name.0 < length ns) fs

  abbrev SamePlace : Place → Place → Type 0
  SamePlace outside outside = Unit {0}
  SamePlace nameless nameless = Unit {0}
  SamePlace no_line no_line = Unit {0}
  SamePlace (has_key k) (has_key l) = (way_of ns k ≡ way_of ks l) × IsGiven ns k
  SamePlace _ _ = ⊥

  names-agree : (i j : NameId) (name : List ℕ) → slice_get ns i.0 ≡ Some name → slice_get ks j.0 ≡ Some name → name_of ns i ≡ name_of ks j
  names-agree i j name h k = ap (λ o. unwrap_or o []) h ∙ sym (ap (λ o. unwrap_or o []) k)

  -- one call more, with its offset and discriminator
  abbrev frames_with : Option NameId → ℕ → ℕ → Option (List Frame) → Option (List Frame)
  frames_with name offset disc calls = option_and_then (λ id. option_map (λ rest. record { name = id; offset = offset; disc = disc } ∷ rest) calls) name

  frame-same : (i j : Option NameId) → SameName i j → (u v : Option (List Frame)) → SameFrames u v → (offset disc : ℕ)
      → SameFrames (frames_with i offset disc u) (frames_with j offset disc v)
  frame-same None None n u v h offset disc = tt
  frame-same None (Some j) n u v h offset disc = absurd n
  frame-same (Some i) None n u v h offset disc = absurd n
  frame-same (Some i) (Some j) n None None h offset disc = tt
  frame-same (Some i) (Some j) n None (Some gs) h offset disc = absurd h
  frame-same (Some i) (Some j) n (Some fs) None h offset disc = absurd h
  frame-same (Some i) (Some j) n (Some fs) (Some gs) h offset disc = (
    ap (λ name. to_call offset disc name ∷ map (step_of ns) fs) (names-agree i j n.0 n.1 n.2)
        ∙ ap (λ steps. to_call offset disc (name_of ks j) ∷ steps) h.0,
    All-cons (λ (call : Frame). call.name.0 < length ns) (record { name = i; offset = offset; disc = disc }) fs (slice_get_within ns i.0 n.0 n.1) h.1,
  )

  frames-same : (base : Bool) (s : ℕ) (ms cs : List Member) → AllZip Alike ms cs → SameFrames (frames base s ms) (frames base s cs)
  frames-same base s [] [] h = (refl, λ k d less. absurd (omega (arith, less)))
  frames-same base s [] (c ∷ cs) h = absurd h
  frames-same base s (m ∷ ms) [] h = absurd h
  frames-same base s (m ∷ ms) (c ∷ cs) h =
      let a : Alike m c = h.0 in
      let same = frame-same m.name c.name a.name_is (frames base m.start ms) (frames base m.start cs) (frames-same base m.start ms cs h.1) (line_offset s m.line) (kept base m.disc) in
      subst (λ n. SameFrames (frames base s (m ∷ ms)) (frames_with c.name (line_offset s n) (kept base c.disc) (frames base c.start cs))) a.line_is
      (subst (λ n. SameFrames (frames base s (m ∷ ms)) (frames_with c.name (line_offset s m.line) (kept base n) (frames base c.start cs))) a.disc_is
      (subst (λ n. SameFrames (frames base s (m ∷ ms)) (frames_with c.name (line_offset s m.line) (kept base m.disc) (frames base n cs))) a.start_is same))

  last-same : (s : ℕ) (ms cs : List Member) → AllZip Alike ms cs → last_start s ms ≡ last_start s cs
  last-same s [] [] h = refl
  last-same s [] (c ∷ cs) h = absurd h
  last-same s (m ∷ ms) [] h = absurd h
  last-same s (m ∷ ms) (c ∷ cs) h = last-same m.start ms cs h.1 ∙ ap (λ n. last_start n cs) h.0.start_is

  decided : (b : Bool) (k l : Key) → (way_of ns k ≡ way_of ks l) × IsGiven ns k → SamePlace (if b then no_line else has_key k) (if b then no_line else has_key l)
  decided true k l h = tt
  decided false k l h = h

  way-same : (base : Bool) (i j : NameId) (name : List ℕ) (fs gs : List Frame) (start : ℕ) (row : LineAndDisc) → slice_get ns i.0 ≡ Some name → slice_get ks j.0 ≡ Some name
      → map (step_of ns) fs ≡ map (step_of ks) gs → way_of ns (key base i fs start row) ≡ way_of ks (key base j gs start row)
  way-same base i j name fs gs start row h k same =
      let body = to_body (line_offset start row.0) (kept base row.1) in
      ap (λ n. to_function n ∷ map (step_of ns) fs ++ body ∷ []) (names-agree i j name h k)
      ∙ ap (λ steps. to_function (name_of ks j) ∷ steps ++ body ∷ []) same

  by-same : (base : Bool) (start : ℕ) (i j : Option NameId) → SameName i j → (u v : Option (List Frame)) → SameFrames u v → (row : Option LineAndDisc)
      → SamePlace (place_by base start i u row) (place_by base start j v row)
  by-same base start None None n u v h row = tt
  by-same base start None (Some j) n u v h row = absurd n
  by-same base start (Some i) None n u v h row = absurd n
  by-same base start (Some i) (Some j) n None None h row = tt
  by-same base start (Some i) (Some j) n None (Some gs) h row = absurd h
  by-same base start (Some i) (Some j) n (Some fs) None h row = absurd h
  by-same base start (Some i) (Some j) n (Some fs) (Some gs) h None = tt
  by-same base start (Some i) (Some j) n (Some fs) (Some gs) h (Some row) =
      decided (row.0 == 0) (key base i fs start row) (key base j gs start row) (
        way-same base i j n.0 fs gs start row n.1 n.2 h.0,
        record { root = slice_get_within ns i.0 n.0 n.1; calls = h.1 },
      )

  module _ (f g : ℕ → ℕ → Option LineAndDisc) (rows : (unit address : ℕ) → f unit address ≡ g unit address) (base : Bool) where
    of-same : (address : ℕ) (ms cs : List Member) → AllZip Alike ms cs → SamePlace (place_of base ms (row_of f ms address)) (place_of base cs (row_of g cs address))
    of-same address [] [] h = tt
    of-same address [] (c ∷ cs) h = absurd h
    of-same address (m ∷ ms) [] h = absurd h
    of-same address (m ∷ ms) (c ∷ cs) h =
        let a : Alike m c = h.0 in
        let row = ap (λ u. f u address) a.unit_is ∙ rows c.unit address in
        let last = last-same m.start ms cs h.1 ∙ ap (λ n. last_start n cs) a.start_is in
        let calls = subst (λ n. SameFrames (frames base m.start ms) (frames base n cs)) a.start_is (frames-same base m.start ms cs h.1) in
        subst (λ r. SamePlace (place_of base (m ∷ ms) (f m.unit address)) (place_of base (c ∷ cs) r)) row
        (subst (λ s. SamePlace (place_of base (m ∷ ms) (f m.unit address)) (place_by base s c.name (frames base c.start cs) (f m.unit address))) last
        (by-same base (last_start m.start ms) m.name c.name a.name_is (frames base m.start ms) (frames base c.start cs) calls (f m.unit address)))

    same-place : (address : ℕ) (ms cs : List Member) → AllZip Alike ms cs → SamePlace (place_at f base ms address) (place_at g base cs address)
    same-place address ms cs h =
        of-same address (chain_members ms address) (chain_members cs address)
        (members-alike (chain ms address) (chain cs address)
        (subst (λ c. AllZip AlikeNumbered c (chain cs address)) (sym (one_pass ms address))
        (subst (λ c. AllZip AlikeNumbered (chain_from 0 address (enumerate_from 0 ms)) c) (sym (one_pass cs address))
        (chain-alike address 0 (enumerate_from 0 ms) (enumerate_from 0 cs) (numbered-alike 0 ms cs h)))))

  shows : (p q : Place) → SamePlace p q → (keys : List Key) (answer : Where) → Tells keys p answer → TellsNamed ns keys (in_names ks q) answer
  shows outside outside h keys answer t = t
  shows nameless nameless h keys answer t = t
  shows no_line no_line h keys answer t = t
  shows (has_key k) (has_key l) h keys answer t = (t.0, t.1, record { key = k; at_number = t.2; given = h.1; way_is = sym h.0 })
  shows outside nameless h keys answer t = absurd h
  shows outside no_line h keys answer t = absurd h
  shows outside (has_key l) h keys answer t = absurd h
  shows nameless outside h keys answer t = absurd h
  shows nameless no_line h keys answer t = absurd h
  shows nameless (has_key l) h keys answer t = absurd h
  shows no_line outside h keys answer t = absurd h
  shows no_line nameless h keys answer t = absurd h
  shows no_line (has_key l) h keys answer t = absurd h
  shows (has_key k) outside h keys answer t = absurd h
  shows (has_key k) nameless h keys answer t = absurd h
  shows (has_key k) no_line h keys answer t = absurd h

  -- What a map tells by the one numbering shows the place by the other.
  pub shown : (tolds : List Told) (ms cs : List Member) → AreTold ns tolds ms → AreTold ks tolds cs → (f g : ℕ → ℕ → Option LineAndDisc)
      → ((unit address : ℕ) → f unit address ≡ g unit address) → (base : Bool) (keys : List Key) (address : ℕ) (answer : Where)
      → Tells keys (place_at f base ms address) answer → TellsNamed ns keys (in_names ks (place_at g base cs address)) answer
  shown tolds ms cs h k f g rows base keys address answer tells =
      shows (place_at f base ms address) (place_at g base cs address) (same-place f g rows base address ms cs (alike tolds ms cs h k)) keys answer tells
