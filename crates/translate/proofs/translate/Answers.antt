use Rattle.std.proofs.Common.{arith}
use Rattle.std.proofs.lemmas.Result.{err_from_is_err_and}
use Rattle.translate_rows.specs.Laws.Read.{is_job, in_limits}
use Rattle.translate.specs.Laws.Read.{passed_got, passed_bad, passed_firsts, refused_as, too_short, translated_as, image_whole}
use Rattle.translate.proofs.translate.Goals as goal

pub returns-in_err-passed : goal.returns-in_err-passed
returns-in_err-passed c =
    let args = c.args in
    let put-rows = c.put_rows in
    let p = err_from_is_err_and c.from_residual.result c.from_residual.ensures.1 in
    rw (p.1, p.2) (refused_as args.text.now args.image.now (passed_bad c.in_err-passed.was) put-rows.ensures.0 put-rows.ensures.2)

pub returns-then-image-length : goal.returns-then-image-length
returns-then-image-length c =
    let put-rows = c.put_rows in
    let t = is_job c.args.text.now (passed_got c.in_ok-passed.was) put-rows.ensures.0 in
    too_short _ t c.args.image.now (omega arith) put-rows.ensures.2

pub lay_rest-requires : goal.lay_rest-requires
lay_rest-requires c = let t = is_job c.args.text.now (passed_got c.in_ok-passed.was) c.put_rows.ensures.0 in in_limits _ t

pub returns : goal.returns
returns c =
    let args = c.args in
    let put-rows = c.put_rows in
    let t = is_job args.text.now (passed_got c.in_ok-passed.was) put-rows.ensures.0 in
    translated_as _ t args.image.now (omega arith) (image_whole _ t args.image.now (omega arith) (passed_firsts c.in_ok-passed.was put-rows.ensures.1) put-rows.ensures.2 c.lay_rest.ensures)
