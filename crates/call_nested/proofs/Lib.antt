pub mod NestCall
