use Rattle.std.proofs.Common.{length, subst, ◌∙◌}
use Rattle.key_types.specs.Segments.{HaveSegments}
use Rattle.context_map.specs.Asked.{IsMapOver}
use Rattle.context_map.specs.Maps.{rows_of}
use Rattle.binary_model.specs.Binary.{tables_in}
use Rattle.binary_places.proofs.binary.places.Goals as goal

pub make_asked-requires-clause-functions : goal.make_asked-requires-clause-functions
make_asked-requires-clause-functions c =
    rw c.deref.ensures.value c.requires.2.functions

pub returns : goal.returns
returns c = λ file base is.
    record {
      members = c.args.binary.members.items;
      told = is.told;
      map = subst (λ b. IsMapOver c.args.asked.now (rows_of (tables_in file)) b c.args.binary.members.items c.make_asked.new.keys c.in_ok-map.map) is.base_is
          (subst (λ ts. IsMapOver c.args.asked.now (rows_of ts) c.args.binary.base c.args.binary.members.items c.make_asked.new.keys c.in_ok-map.map) (c.deref-2.ensures.value ∙ is.tables_are)
          (subst (λ ms. IsMapOver c.args.asked.now (rows_of c.deref-2.result.now) c.args.binary.base ms c.make_asked.new.keys c.in_ok-map.map) c.deref.ensures.value c.in_ok-map.ensures.map));
      used = subst (λ ks. HaveSegments (length ks) c.make_asked.new.keys c.in_ok-map.map.segments) c.in_ok-keys.ensures c.in_ok-map.ensures.used;
    }
