use Rattle.std.proofs.Common.{refl}
use Rattle.std.proofs.lemmas.Result.{err_from_is_err_and}
use Rattle.sky_xdr.specs.Reading.{bind}
use Rattle.sky_xdr.specs.GrammarReading.{give}
use Rattle.sky_args.specs.Reading.{mknod_data_at, mknod_data_from, block_at, character_at, socket_at, pipe_at}
use Rattle.sky_args.proofs.how.take_mknod_data.Goals as goal

pub returns-in_err-take_u32 : goal.returns-in_err-take_u32
unfolding mknod_data_at mknod_data_from block_at character_at socket_at pipe_at bind give
returns-in_err-take_u32 c =
    let p = err_from_is_err_and c.from_residual.result c.from_residual.ensures.1 in
    rw (p.1, p.2, c.in_err-take_u32.ensures.exact.0) (record { exact = refl })

pub returns-in-1 : goal.returns-in-1
unfolding mknod_data_at mknod_data_from block_at character_at socket_at pipe_at bind give
returns-in-1 c = rw (c.in_ok-take_u32.ensures.exact, c.in-1.is) (record { exact = refl })

pub returns-in-2 : goal.returns-in-2
unfolding mknod_data_at mknod_data_from block_at character_at socket_at pipe_at bind give
returns-in-2 c = rw (c.in_ok-take_u32.ensures.exact, c.in-2.is) (record { exact = refl })

pub returns-in_err-take_set_attr-in-3 : goal.returns-in_err-take_set_attr-in-3
unfolding mknod_data_at mknod_data_from block_at character_at socket_at pipe_at bind give
returns-in_err-take_set_attr-in-3 c =
    let p = err_from_is_err_and c.from_residual-in_err-take_set_attr-in-3.result c.from_residual-in_err-take_set_attr-in-3.ensures.1 in
    rw (p.1, p.2, c.in_ok-take_u32.ensures.exact, c.in-3.is, c.in_err-take_set_attr-in-3.ensures.exact) (record { exact = refl })

pub returns-in_err-take_device-in-3 : goal.returns-in_err-take_device-in-3
unfolding mknod_data_at mknod_data_from block_at character_at socket_at pipe_at bind give
returns-in_err-take_device-in-3 c =
    let p = err_from_is_err_and c.from_residual-in_err-take_device-in-3.result c.from_residual-in_err-take_device-in-3.ensures.1 in
    rw (p.1, p.2, c.in_ok-take_u32.ensures.exact, c.in-3.is, c.in_ok-take_set_attr-in-3.ensures.exact, c.in_err-take_device-in-3.ensures.exact) (record { exact = refl })

pub returns-in_ok-take_device-in-3 : goal.returns-in_ok-take_device-in-3
unfolding mknod_data_at mknod_data_from block_at character_at socket_at pipe_at bind give
returns-in_ok-take_device-in-3 c = rw (c.in_ok-take_u32.ensures.exact, c.in-3.is, c.in_ok-take_set_attr-in-3.ensures.exact, c.in_ok-take_device-in-3.ensures.exact) (record { exact = refl })

pub returns-in_err-take_set_attr-in-4 : goal.returns-in_err-take_set_attr-in-4
unfolding mknod_data_at mknod_data_from block_at character_at socket_at pipe_at bind give
returns-in_err-take_set_attr-in-4 c =
    let p = err_from_is_err_and c.from_residual-in_err-take_set_attr-in-4.result c.from_residual-in_err-take_set_attr-in-4.ensures.1 in
    rw (p.1, p.2, c.in_ok-take_u32.ensures.exact, c.in-4.is, c.in_err-take_set_attr-in-4.ensures.exact) (record { exact = refl })

pub returns-in_err-take_device-in-4 : goal.returns-in_err-take_device-in-4
unfolding mknod_data_at mknod_data_from block_at character_at socket_at pipe_at bind give
returns-in_err-take_device-in-4 c =
    let p = err_from_is_err_and c.from_residual-in_err-take_device-in-4.result c.from_residual-in_err-take_device-in-4.ensures.1 in
    rw (p.1, p.2, c.in_ok-take_u32.ensures.exact, c.in-4.is, c.in_ok-take_set_attr-in-4.ensures.exact, c.in_err-take_device-in-4.ensures.exact) (record { exact = refl })

pub returns-in_ok-take_device-in-4 : goal.returns-in_ok-take_device-in-4
unfolding mknod_data_at mknod_data_from block_at character_at socket_at pipe_at bind give
returns-in_ok-take_device-in-4 c = rw (c.in_ok-take_u32.ensures.exact, c.in-4.is, c.in_ok-take_set_attr-in-4.ensures.exact, c.in_ok-take_device-in-4.ensures.exact) (record { exact = refl })

pub returns-in-5 : goal.returns-in-5
unfolding mknod_data_at mknod_data_from block_at character_at socket_at pipe_at bind give
returns-in-5 c = rw (c.in_ok-take_u32.ensures.exact, c.in-5.is) (record { exact = refl })

pub returns-in_err-take_set_attr-in-6 : goal.returns-in_err-take_set_attr-in-6
unfolding mknod_data_at mknod_data_from block_at character_at socket_at pipe_at bind give
returns-in_err-take_set_attr-in-6 c =
    let p = err_from_is_err_and c.from_residual-in_err-take_set_attr-in-6.result c.from_residual-in_err-take_set_attr-in-6.ensures.1 in
    rw (p.1, p.2, c.in_ok-take_u32.ensures.exact, c.in-6.is, c.in_err-take_set_attr-in-6.ensures.exact) (record { exact = refl })

pub returns-in_ok-take_set_attr-in-6 : goal.returns-in_ok-take_set_attr-in-6
unfolding mknod_data_at mknod_data_from block_at character_at socket_at pipe_at bind give
returns-in_ok-take_set_attr-in-6 c = rw (c.in_ok-take_u32.ensures.exact, c.in-6.is, c.in_ok-take_set_attr-in-6.ensures.exact) (record { exact = refl })

pub returns-in_err-take_set_attr-in-7 : goal.returns-in_err-take_set_attr-in-7
unfolding mknod_data_at mknod_data_from block_at character_at socket_at pipe_at bind give
returns-in_err-take_set_attr-in-7 c =
    let p = err_from_is_err_and c.from_residual-in_err-take_set_attr-in-7.result c.from_residual-in_err-take_set_attr-in-7.ensures.1 in
    rw (p.1, p.2, c.in_ok-take_u32.ensures.exact, c.in-7.is, c.in_err-take_set_attr-in-7.ensures.exact) (record { exact = refl })

pub returns-in_ok-take_set_attr-in-7 : goal.returns-in_ok-take_set_attr-in-7
unfolding mknod_data_at mknod_data_from block_at character_at socket_at pipe_at bind give
returns-in_ok-take_set_attr-in-7 c = rw (c.in_ok-take_u32.ensures.exact, c.in-7.is, c.in_ok-take_set_attr-in-7.ensures.exact) (record { exact = refl })
