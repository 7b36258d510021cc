use mathlib.Core.Path.{refl, sym}
use Rattle.sheet.specs.Accepted.{trailer_in}
use Rattle.single_path.proofs.SingleLaws.{run-for, none-for, way-for}
use Rattle.single_path.proofs.single.single_shortest_path.Goals as goal

pub returns-in_default : goal.returns-in_default
returns-in_default c =
    let args = c.args in
    let m = args.machine.now in
    let s = m.sheet in
    let r = run-for s.bytes.now args.work.now c.make.new.work m.climbs (trailer_in s.links s.nodes s.start s.form) s.stated c.requires c.make.ensures in
    let listed = none-for s.bytes.now args.work.now _ s.links s.nodes s.form r _ c.in_default.ensures refl args.res.now _ _ (c.put_none.ensures.value, c.put_none.ensures.res_after) in record {
      value = listed.0;
      res_after = listed.1;
      work_len_unchanged = r.size;
      work_unchanged = r.beyond;
    }

pub invariant_of-way : goal.invariant_of-way
invariant_of-way c =
    let args = c.args in
    let m = args.machine.now in
    let s = m.sheet in
    let r = run-for s.bytes.now args.work.now c.make.new.work m.climbs (trailer_in s.links s.nodes s.start s.form) s.stated c.requires c.make.ensures in
    let t = r.traced c.in-Some.end (sym c.in-Some.ensures) in
    record { traced = t.0; inside = t.1 }

pub returns : goal.returns
returns c =
    let args = c.args in
    let m = args.machine.now in
    let s = m.sheet in
    let r = run-for s.bytes.now args.work.now c.make.new.work m.climbs (trailer_in s.links s.nodes s.start s.form) s.stated c.requires c.make.ensures in
    let listed = way-for s.bytes.now args.work.now _ s.links s.nodes s.form r _ c.in-Some.ensures c.in-Some.end refl c.are_bytes.ensures args.res.now _ _ (c.backtrace.ensures.value, c.backtrace.ensures.res_after) in record {
      value = listed.0;
      res_after = listed.1;
      work_len_unchanged = r.size;
      work_unchanged = r.beyond;
    }
