use Rattle.sheet.specs.Records.{final_at}
use Rattle.single_path.specs.SingleWords.{way_back}
use Rattle.single_path.proofs.WayBytes.{way-short, way_long}
use Rattle.single_path.proofs.single.Way.backtrace.Goals as goal

pub returns-then-res-count : goal.returns-then-res-count
returns-then-res-count c =
    let self = c.args.self.now in
    let sheet = self.machine.sheet in
    let told = way-short sheet.bytes.now sheet.form (final_at sheet.bytes.now sheet.links self.end) (way_back self.work.now self.end self.end) c.length-count.result c.length-count.ensures.value c.args.res.now c.trailer.result c.trailer.ensures c.if-res-count.true in
    record { value = told.0; res_after = told.1 }

pub returns : goal.returns
returns c =
    let self = c.args.self.now in
    let sheet = self.machine.sheet in
    let told = way_long sheet.bytes.now sheet.form (final_at sheet.bytes.now sheet.links self.end) (way_back self.work.now self.end self.end) c.length-count.result c.length-count.ensures.value c.args.res.now _ c.trailer.result c.trailer.ensures c.if-res-count.false c.put.ensures in
    record { value = told.0; res_after = told.1 }
